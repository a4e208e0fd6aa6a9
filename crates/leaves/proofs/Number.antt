-- What the loop of `number` knows, and what follows at each of its ways out. Assumes nothing.
use mathlib.Core.Path.{◌≡◌, refl, sym, ◌∙◌, ap}
use mathlib.Core.Bool.{Bool, true, false, cond}
use mathlib.Core.List.{List, [], ◌∷◌}
use Prim.Native.Nat.{ℕ, suc, ◌+◌, ◌*◌, ◌-◌, ◌≤◌, ◌<◌, ◌^◌}
use native.Mathlib.Nat.{suc-add, zero-add, add_assoc, pow-suc, pow-le-pow_right}
use native.Mathlib.Omega.{arith}
use lib.Dec.{ltb, eqb}
use lib.ListN.{length, drop, get_or}
use lib.Seq.{drop-drop}
use borrow.Author.Tests.{eqb-true, ltb-true, ltb-false, lt-ltb, le-ltb}
use Rattle.text.specs.Why.{no_digits}
use Rattle.text.specs.Nom.{fail, ok, bytes, is_one_of, run, run_end, decimal, is_digit}
use Rattle.text.specs.Util.{parsed, fits, large}
use Rattle.leaves.specs.Inside.Ends.{pick_parsed}
use Rattle.leaves.specs.Answers.{parsed_of}
use Rattle.text.proofs.Laws.{or_false, run_from, run_step, run_stop, run_within, run_out, decimal_step, decimal_stop, decimal_out, decimal_le}

-- ---- the three outcomes
module _ (text : List ℕ) (at : ℕ) where
  pub parsed_none : run_end is_digit text at ≡ at → parsed text at ≡ fail no_digits
  unfolding parsed
  parsed_none e = simp (le-ltb at (run_end is_digit text at) (omega (arith, e)))

  pub parsed_fits : (v n : ℕ) → run_end is_digit text at ≡ n → decimal 0 (drop at text) ≡ v → at < n → v < 2 ^ 64 → parsed text at ≡ ok (fits v) n
  unfolding parsed
  parsed_fits v n e d h k = simp (e, d, lt-ltb _ _ h, lt-ltb _ _ k)

  pub parsed_large : (n : ℕ) → run_end is_digit text at ≡ n → at < n → 2 ^ 64 ≤ decimal 0 (drop at text) → parsed text at ≡ ok large n
  unfolding parsed
  parsed_large n e h k = simp (e, lt-ltb _ _ h, le-ltb _ _ k)

-- the digits from `at` to `i` have been read, and write v
pub record Counted (text : List ℕ) (at i v : ℕ) : Type 0 where
  pub run : run_end is_digit text at ≡ run_end is_digit text i
  pub value : decimal 0 (drop at text) ≡ decimal v (drop i text)
  pub from : at ≤ i
  pub small : v < 2 ^ 64

-- ---- zeros in front
abbrev is_zero : ℕ → Bool
is_zero = is_one_of (bytes "0")

zero_byte : (x : ℕ) → is_zero x ≡ true → x ≡ 48
zero_byte x e = sym (eqb-true 48 x (sym (or_false (eqb 48 x)) ∙ e))

-- behind them the number is the same
zeros_value : (s : List ℕ) → decimal 0 s ≡ decimal 0 (drop (run is_zero s) s)
unfolding decimal run
zeros_value [] = refl
zeros_value (x ∷ s) = go (is_zero x) refl (zeros_value s)
  where
    go : (b : Bool) → is_zero x ≡ b → decimal 0 s ≡ decimal 0 (drop (run is_zero s) s) → decimal 0 (x ∷ s) ≡ decimal 0 (drop (cond b (suc (run is_zero s)) 0) (x ∷ s))
    go true e ih = rw (zero_byte x e) ih
    go false e ih = refl

-- and so is the run of digits
zeros_run : (s : List ℕ) → run is_digit s ≡ run is_zero s + run is_digit (drop (run is_zero s) s)
unfolding run is_digit
zeros_run [] = refl
zeros_run (x ∷ s) = go (is_zero x) refl (zeros_run s)
  where
    go : (b : Bool) → is_zero x ≡ b → run is_digit s ≡ run is_zero s + run is_digit (drop (run is_zero s) s)
        → run is_digit (x ∷ s) ≡ cond b (suc (run is_zero s)) 0 + run is_digit (drop (cond b (suc (run is_zero s)) 0) (x ∷ s))
    go true e ih = rw (zero_byte x e, ih) (sym (suc-add _ _))
    go false e ih = sym (zero-add _)

pub counted_zeros : (text : List ℕ) (at z : ℕ) → z ≡ run_end is_zero text at → Counted text at z 0
unfolding run_end
counted_zeros text at z e =
    let zs = run is_zero (drop at text) in
    let rest : drop z text ≡ drop zs (drop at text) = ap (λ k. drop k text) e ∙ sym (drop-drop zs at text) in
    record {
      run = rw (rest, e, zeros_run (drop at text)) (sym (add_assoc at zs _));
      value = zeros_value (drop at text) ∙ ap (decimal 0) (sym rest);
      from = omega arith;
      small = omega arith;
    }

-- and they end within the text
pub zeros_within : (text : List ℕ) (at z : ℕ) → z ≡ run_end is_zero text at → at ≤ length text → z ≤ length text
zeros_within text at z e h = go (ltb at z) refl
  where
    go : (b : Bool) → ltb at z ≡ b → z ≤ length text
    go true q = let w = ltb-true at z q in omega (arith, e, run_within is_zero text at (omega arith))
    go false q = omega (arith, ltb-false at z q)

-- ---- one digit more
module _ (text : List ℕ) (at i v : ℕ) (c : Counted text at i v) where
  pub counted_step : i < length text → is_digit (get_or text i 0) ≡ true → v * 10 + (get_or text i 0 - 48) < 2 ^ 64 → Counted text at (i + 1) (v * 10 + (get_or text i 0 - 48))
  counted_step h e k =
      record {
        run = c.run ∙ run_step is_digit text i h e;
        value = c.value ∙ decimal_step text v i h e;
        from = omega arith;
        small = k;
      }

  -- one digit more passes the limit, and those after it can't bring it back
  pub counted_large : i < length text → is_digit (get_or text i 0) ≡ true → 2 ^ 64 ≤ v * 10 + (get_or text i 0 - 48) → ok large (run_end is_digit text i) ≡ parsed text at
  counted_large h e k =
      let w = v * 10 + (get_or text i 0 - 48) in
      let big : 2 ^ 64 ≤ decimal 0 (drop at text) = omega (arith, c.value ∙ decimal_step text v i h e, decimal_le (drop (i + 1) text) w) in
      sym (parsed_large text at (run_end is_digit text i) c.run (omega (arith, run_step is_digit text i h e, run_from is_digit text (i + 1))) big)

  ended : run_end is_digit text i ≡ i → decimal v (drop i text) ≡ v → parsed_of (pick_parsed (ltb at i) v i) ≡ parsed text at
  ended e d = go (ltb at i) refl
    where
      go : (b : Bool) → ltb at i ≡ b → parsed_of (pick_parsed b v i) ≡ parsed text at
      go true q = sym (parsed_fits text at v i (c.run ∙ e) (c.value ∙ d) (ltb-true at i q) c.small)
      go false q = sym (parsed_none text at (omega (arith, c.run ∙ e, ltb-false at i q)))

  pub counted_stop : i < length text → is_digit (get_or text i 0) ≡ false → parsed_of (pick_parsed (ltb at i) v i) ≡ parsed text at
  counted_stop h e = ended (run_stop is_digit text i h e) (decimal_stop text v i h e)

  pub counted_out : length text ≤ i → parsed_of (pick_parsed (ltb at i) v i) ≡ parsed text at
  counted_out h = ended (run_out is_digit text i h) (decimal_out text v i h)

  -- where the digits go to the text's end; where the text ends before them, there are none
  pub counted_end : length text ≤ i → (at ≤ length text → i ≤ length text) → parsed_of (pick_parsed (ltb at (length text)) v (length text)) ≡ parsed text at
  counted_end h b = go (ltb at (length text)) refl
    where
      go : (t : Bool) → ltb at (length text) ≡ t → parsed_of (pick_parsed t v (length text)) ≡ parsed text at
      go true q =
          let e : i ≡ length text = omega (arith, ltb-true at (length text) q, b) in
          ap (λ (k : ℕ). parsed_of (pick_parsed true v k)) (sym e)
          ∙ ap (λ (t : Bool). parsed_of (pick_parsed t v i)) (sym (lt-ltb at i (omega (arith, ltb-true at (length text) q))))
          ∙ counted_out h
      go false q = sym (parsed_none text at (run_out is_digit text at (ltb-false at (length text) q)))

-- ---- few digits fit
pub digits_below : (at i v d : ℕ) → at ≤ i → v < 10 ^ (i - at) → d ≤ 9 → v * 10 + d < 10 ^ (i + 1 - at)
digits_below at i v d h b k = let e : i + 1 - at ≡ suc (i - at) = omega arith in rw (e, pow-suc) (omega arith)

pub fits_below : (at i v : ℕ) → i < at + 19 → v < 10 ^ (i - at) → v * 10 + 9 < 2 ^ 64
fits_below at i v h b =
    let ten : 0 < 10 = omega arith in
    let few : i - at ≤ 18 = omega arith in
    let m : 10 ^ (i - at) ≤ 10 ^ 18 = pow-le-pow_right ten few in
    omega arith
