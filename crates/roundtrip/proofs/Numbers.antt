-- Numbers, byte ranges and lengths that were written, where they are ahead: each reads back as what it was. Assumes nothing.
use Prim.Native.Nat.{ℕ, ◌+◌, ◌-◌, ◌*◌, ◌/◌, ◌%◌, ◌^◌, ◌≤◌, ◌<◌}
use mathlib.Core.Path.{◌≡◌, refl, sym, ◌∙◌, ap}
use mathlib.Core.Bool.{Bool, true, false, cond}
use mathlib.Core.List.{List, [], ◌∷◌, ◌++◌, append_assoc, append-nil}
use mathlib.Core.Option.{none, some}
use native.Mathlib.Omega.{arith}
use native.Mathlib.Nat.{div-lt_iff_lt-mul, div-add-mod'}
use lib.Dec.{leb, eqb, lit<}
use lib.ListN.{length, drop, length-append}
use borrow.Author.Tests.{lt-ltb, le-leb, leb-true, eqb-true, eqb-false}
use Rattle.text.specs.Nom.{ok, bytes, is_digit, begins, decimal}
use Rattle.text.specs.Util.{fits, parsed, number, number_or_zero, ByteRange, range, byte_range_val}
use Rattle.text.proofs.Laws.{and_left}
use Rattle.text.proofs.Ahead.{Every, Stops, on, tagged_ahead, tag_ahead, parsed_ahead}
use Rattle.lengths.specs.Duration.{side_digits, ns, length_of, float}
use Rattle.lengths.proofs.Ahead.{written, float_whole_ahead, float_both_ahead}
use Rattle.tables.specs.Layout.{second, length_limit}
use Rattle.digits.specs.Digits.{number_text, fraction_by, fraction_text, length_text}
use Rattle.digits.proofs.Number.{Digits, number_digits, number_parts, number_short}
use Rattle.digits.proofs.Length.{fraction_short, fraction_back, fraction_parts}
use Rattle.playlist.specs.Lines.{range_bytes}
use Rattle.roundtrip.proofs.Said.{NumbersFit}

-- what ends a number
pub no_digit_lf : is_digit 10 ≡ false
unfolding is_digit
no_digit_lf = refl

pub no_digit_at : is_digit 64 ≡ false
unfolding is_digit
no_digit_at = refl

pub no_digit_comma : is_digit 44 ≡ false
unfolding is_digit
no_digit_comma = refl

-- ---- a number
-- its text passes a test that no byte from `0` on fails
module _ (q : ℕ → Bool) (passes : (x : ℕ) → 48 ≤ x → q x ≡ true) where
  digits_pass : (b : List ℕ) → Every is_digit b → Every q b
  unfolding Every is_digit
  digits_pass [] h = tt
  digits_pass (x ∷ b) h = (passes x (leb-true 48 x (and_left (leb 48 x) (leb x 57) h.0)), digits_pass b h.1)

  pub number_every : (n : ℕ) → Every q (number_text n)
  number_every n = digits_pass (number_text n) (number_digits n)

-- and reads back
module _ (text : List ℕ) (at n : ℕ) (h : n < 2 ^ 64) (xs : List ℕ) (s : Stops is_digit xs) (d : drop at text ≡ number_text n ++ xs) where
  parsed_back : parsed text at ≡ ok (fits n) (at + length (number_text n))
  parsed_back =
      let p = number_parts n h in
      let e : drop at text ≡ (p.first ∷ p.rest) ++ xs = d ∙ ap (λ (l : List ℕ). l ++ xs) p.parts in
      rw (p.parts, parsed_ahead text at p.first p.rest xs p.every s e, p.value, lt-ltb n (2 ^ 64) h)

  pub number_back : number text at ≡ ok n (at + length (number_text n))
  unfolding number
  number_back = rw parsed_back

  pub number_or_zero_back : number_or_zero text at ≡ ok n (at + length (number_text n))
  unfolding number_or_zero
  number_or_zero_back = rw parsed_back

-- ---- a byte range
pub range_back : (text : List ℕ) (at : ℕ) (r : ByteRange) → NumbersFit r → (xs : List ℕ) → Stops is_digit xs → begins (bytes "@") xs ≡ false → drop at text ≡ range_bytes r ++ xs
    → byte_range_val text at ≡ ok r (at + length (range_bytes r))
unfolding byte_range_val
range_back text at (range n none) h xs s q d =
    let m = at + length (number_text n) in
    rw (number_back text at n h xs s d, tagged_ahead text m (bytes "@") xs (on text at (number_text n) xs d), q)
range_back text at (range n (some o)) h xs s q d =
    let m = at + length (number_text n) in
    let h0 : drop at text ≡ number_text n ++ (bytes "@" ++ (number_text o ++ xs)) = d ∙ append_assoc (number_text n) (bytes "@" ++ number_text o) xs in
    let h1 = on text at (number_text n) _ h0 in
    let h2 = on text m (bytes "@") _ h1 in
    let z : m + 1 + length (number_text o) ≡ at + length (number_text n ++ (bytes "@" ++ number_text o)) = omega (arith, length-append (number_text n) (bytes "@" ++ number_text o)) in
    rw (number_back text at n h.0 _ no_digit_at h0, tag_ahead text m (bytes "@") _ h1, number_back text (m + 1) o h.1 xs s h2, z)

-- ---- a length
-- nine digits at most, and nine behind the point, are a length exactly
whole_ns : (x : ℕ) (b : List ℕ) → length (x ∷ b) ≤ side_digits → length_of (written (x ∷ b)) none ≡ ns (decimal 0 (x ∷ b) * second)
whole_ns x b k = rw (le-leb (length (x ∷ b)) side_digits k)

both_ns : (x : ℕ) (b : List ℕ) (y : ℕ) (c : List ℕ) → length (x ∷ b) ≤ side_digits → length (y ∷ c) ≤ side_digits
    → length_of (written (x ∷ b)) (some (written (y ∷ c))) ≡ ns (decimal 0 (x ∷ b) * second + decimal 0 (y ∷ c) * 10 ^ (9 - length (y ∷ c)))
both_ns x b y c k m = rw (le-leb (length (x ∷ b)) side_digits k, le-leb (length (y ∷ c)) side_digits m)

module _ (text : List ℕ) (at l : ℕ) (h : l < length_limit) (xs : List ℕ) (s : Stops is_digit xs) (q : begins (bytes ".") xs ≡ false) where
  abbrev seconds : ℕ
  seconds = l / second

  abbrev part : ℕ
  part = l % second

  few_seconds : seconds < second
  few_seconds = (div-lt_iff_lt-mul (lit< tt)).1 h

  whole : Digits (number_text seconds) seconds
  whole = number_parts seconds (omega (arith, few_seconds))

  whole_short : length (whole.first ∷ whole.rest) ≤ side_digits
  whole_short = omega (arith, ap length whole.parts, number_short 8 seconds few_seconds)

  -- no fraction
  length_whole : part ≡ 0 → drop at text ≡ number_text seconds ++ xs → float text at ≡ ok (ns l) (at + length (number_text seconds))
  length_whole z d =
      let w = whole in
      let e : drop at text ≡ (w.first ∷ w.rest) ++ xs = d ∙ ap (λ (b : List ℕ). b ++ xs) w.parts in
      let y : seconds * second ≡ l = omega (arith, div-add-mod' l second, z) in
      rw (w.parts, float_whole_ahead text at w.first w.rest w.every xs s q e, whole_ns w.first w.rest whole_short, w.value, y)

  length_both : (part ≡ 0 → ⊥) → drop at text ≡ number_text seconds ++ (bytes "." ++ (fraction_by 9 part ++ xs))
      → float text at ≡ ok (ns l) (at + length (number_text seconds) + 1 + length (fraction_by 9 part))
  length_both z d =
      let w = whole in
      let small : part < second = omega arith in
      let f = fraction_parts 8 part z small in
      let e : drop at text ≡ (w.first ∷ w.rest) ++ (bytes "." ++ ((f.first ∷ f.rest) ++ xs)) = d ∙ rw (w.parts, f.parts) in
      let short : length (f.first ∷ f.rest) ≤ side_digits = omega (arith, ap length f.parts, fraction_short 9 part) in
      let v : decimal 0 (f.first ∷ f.rest) * 10 ^ (9 - length (f.first ∷ f.rest)) ≡ part = ap (λ (b : List ℕ). decimal 0 b * 10 ^ (9 - length b)) (sym f.parts) ∙ fraction_back 9 part small in
      let y : seconds * second + part ≡ l = omega (arith, div-add-mod' l second) in
      rw (w.parts, f.parts, float_both_ahead text at w.first w.rest w.every f.first f.rest xs f.every s e, both_ns w.first w.rest f.first f.rest whole_short short, w.value, v, y)

  pub length_back : drop at text ≡ length_text l ++ xs → float text at ≡ ok (ns l) (at + length (length_text l))
  unfolding length_text fraction_text
  length_back d = go (eqb part 0) refl d
    where
      go : (c : Bool) → eqb part 0 ≡ c → drop at text ≡ (number_text seconds ++ cond c [] (46 ∷ fraction_by 9 part)) ++ xs
          → float text at ≡ ok (ns l) (at + length (number_text seconds ++ cond c [] (46 ∷ fraction_by 9 part)))
      go true e d = rw append-nil (length_whole (eqb-true part 0 e) (rw append-nil at d))
      go false e d =
          let z : at + length (number_text seconds) + 1 + length (fraction_by 9 part) ≡ at + length (number_text seconds ++ 46 ∷ fraction_by 9 part) = omega (arith, length-append (number_text seconds) (46 ∷ fraction_by 9 part)) in
          rw (← z) (length_both (eqb-false part 0 e) (d ∙ append_assoc (number_text seconds) (46 ∷ fraction_by 9 part) xs))
