-- What a rule of a length makes of known bytes ahead, `drop at text ≡ xs`, by the laws of `text`. Assumes nothing.
use Prim.Native.Nat.{ℕ, ◌+◌, ◌-◌}
use mathlib.Core.Path.{◌≡◌, refl}
use mathlib.Core.Bool.{false}
use mathlib.Core.List.{List, ◌∷◌, ◌++◌}
use mathlib.Core.Option.{none, some}
use native.Mathlib.Omega.{arith}
use lib.ListN.{length, drop}
use Rattle.text.specs.Why.{other_text}
use Rattle.text.specs.Nom.{ok, bytes, is_digit, is_none_of, begins, decimal, span_or}
use Rattle.text.proofs.Ahead.{Every, Stops, on, tagged_ahead, run_ahead, tag_ahead, after_ahead, after_not, one_ahead, digit1_ahead}
use Rattle.lengths.specs.Duration.{Digits, digits, counted, Length, length_of, float, extinf, duration_title_tag}
use Rattle.lengths.proofs.Sides.{float_whole, float_both}

-- what these bytes are, as digits
abbrev pub written : List ℕ → Digits
written b = digits (decimal 0 b) (length b)

module _ (text : List ℕ) (at : ℕ) where
  pub counted_ahead : (x : ℕ) (b xs : List ℕ) → Every is_digit (x ∷ b) → Stops is_digit xs → drop at text ≡ (x ∷ b) ++ xs → counted text at ≡ ok (written (x ∷ b)) (at + length (x ∷ b))
  unfolding counted
  counted_ahead x b xs e s h = let z : at + length (x ∷ b) - at ≡ length (x ∷ b) = omega arith in rw (digit1_ahead text at x b xs e s h, z)

module _ (text : List ℕ) (at x : ℕ) (b : List ℕ) (e : Every is_digit (x ∷ b)) where
  -- digits before what is neither a digit nor a point
  pub float_whole_ahead : (xs : List ℕ) → Stops is_digit xs → begins (bytes ".") xs ≡ false → drop at text ≡ (x ∷ b) ++ xs → float text at ≡ ok (length_of (written (x ∷ b)) none) (at + length (x ∷ b))
  float_whole_ahead xs s p h =
      let m = at + length (x ∷ b) in
      float_whole text at (written (x ∷ b)) m other_text (counted_ahead text at x b xs e s h) (rw (tagged_ahead text m (bytes ".") xs (on text at (x ∷ b) xs h), p))

  -- digits, a point, digits
  pub float_both_ahead : (y : ℕ) (d xs : List ℕ) → Every is_digit (y ∷ d) → Stops is_digit xs → drop at text ≡ (x ∷ b) ++ (bytes "." ++ ((y ∷ d) ++ xs))
      → float text at ≡ ok (length_of (written (x ∷ b)) (some (written (y ∷ d)))) (at + length (x ∷ b) + 1 + length (y ∷ d))
  unfolding is_digit
  float_both_ahead y d xs k s h =
      let m = at + length (x ∷ b) in
      let h1 = on text at (x ∷ b) _ h in
      let h2 = on text m (bytes ".") _ h1 in
      float_both text at (written (x ∷ b)) (written (y ∷ d)) m (m + 1 + length (y ∷ d)) (counted_ahead text at x b _ e refl h)
      (rw (tag_ahead text m (bytes ".") _ h1) (counted_ahead text (m + 1) y d xs k s h2))

-- a length, a comma, a title, and the line's end; the next line does not begin with a comma
pub duration_title_ahead : (text : List ℕ) (at m : ℕ) (l : Length) (b xs : List ℕ) → float text at ≡ ok l m → Every (is_none_of (bytes "\r\n,")) b → begins (bytes ",") xs ≡ false
    → drop m text ≡ bytes "," ++ (b ++ (bytes "\n" ++ xs)) → (let c = m + 1 + length b in duration_title_tag text at ≡ ok (extinf l (span_or (m + 1) c)) (c + 1))
unfolding duration_title_tag
duration_title_ahead text at m l b xs f e p h0 =
    let c = m + 1 + length b in
    let h1 = on text m (bytes ",") _ h0 in
    let h2 = on text (m + 1) b _ h1 in
    rw (
      f,
      after_ahead text m (bytes ",") _ h0,
      run_ahead text (m + 1) (is_none_of (bytes "\r\n,")) b _ e refl h1,
      one_ahead text c 10 xs h2,
      after_not text (c + 1) (bytes ",") xs (on text c (bytes "\n") xs h2) p,
    )
