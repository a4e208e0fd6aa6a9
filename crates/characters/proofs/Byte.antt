-- What a byte that fits behind three others says of them, as facts on numbers: from the test, and for ASCII. Assumes nothing.
use Prim.Native.Nat.{ℕ, ◌≤◌, ◌<◌}
use mathlib.Core.Path.{◌≡◌, refl, sym, ◌∙◌}
use mathlib.Core.Logic.{◌⊎◌, inl, inr}
use mathlib.Core.Bool.{Bool, true, false, ◌&&◌, ◌||◌, not, xor, or-true, false≢true}
use native.Mathlib.Decide.{dec_le}
use native.Mathlib.Omega.{arith}
use lib.Dec.{leb, eqb}
use borrow.Author.Tests.{leb-false, le-leb, lt-leb, eq-eqb}
use Rattle.text.specs.Utf8.{◌to◌, in_octet, UTF8-tail}
use Rattle.text.proofs.Laws.{and_left, and_right}
use Rattle.text.proofs.Utf8.{in_from, in_upto}
use Rattle.characters.specs.Inside.Fits.{wanted, wrong, never, fits}

-- a tail
abbrev pub Tail : ℕ → Type 0
Tail d = (0x80 ≤ d) × (d ≤ 0xBF)

pub record Fits (a b c d : ℕ) : Type 0 where
  pub first : c < 0xC2 → b < 0xE0 → a < 0xF0 → (d < 0x80) ⊎ ((0xC2 ≤ d) × (d ≤ 0xF4))
  pub second : 0xC2 ≤ c → Tail d
  pub third : 0xE0 ≤ b → Tail d
  pub fourth : 0xF0 ≤ a → Tail d
  pub after_e0 : c ≡ 0xE0 → 0xA0 ≤ d
  pub after_ed : c ≡ 0xED → d ≤ 0x9F
  pub after_f0 : c ≡ 0xF0 → 0x90 ≤ d
  pub after_f4 : c ≡ 0xF4 → d ≤ 0x8F

-- ---- tests joined
not_so : (x : Bool) → not x ≡ true → x ≡ false
not_so true e = absurd (false≢true e)
not_so false e = refl

neither_left : (x y : Bool) → (x || y) ≡ false → x ≡ false
neither_left true y e = e
neither_left false y e = refl

neither_right : (x y : Bool) → (x || y) ≡ false → y ≡ false
neither_right true y e = absurd (false≢true (sym e))
neither_right false y e = e

alike : (x y : Bool) → not (xor x y) ≡ true → x ≡ y
unfolding xor
alike true true e = refl
alike true false e = absurd (false≢true e)
alike false true e = absurd (false≢true e)
alike false false e = refl

not_yes : (x : Bool) → not x ≡ false → x ≡ true
not_yes true e = refl
not_yes false e = absurd (false≢true (sym e))

-- a byte that is not from lo to hi, and not below lo, is above hi
out_above : (lo hi b : ℕ) → in_octet (lo to hi) b ≡ false → lo ≤ b → hi < b
out_above lo hi b e h = leb-false b hi (rw (le-leb lo b h) at e)

-- ---- by the test
module _ (a b c d : ℕ) (e : fits a b c d ≡ true) where
  tail_as_wanted : in_octet UTF8-tail d ≡ wanted a b c
  unfolding fits
  tail_as_wanted =
      let t = not (xor (in_octet UTF8-tail d) (wanted a b c)) in
      alike (in_octet UTF8-tail d) (wanted a b c) (and_left t (not (wrong c d)) (and_left (t && not (wrong c d)) (not (never d)) e))

  not_wrong : wrong c d ≡ false
  unfolding fits
  not_wrong =
      let t = not (xor (in_octet UTF8-tail d) (wanted a b c)) in
      not_so (wrong c d) (and_right t (not (wrong c d)) (and_left (t && not (wrong c d)) (not (never d)) e))

  not_never : never d ≡ false
  unfolding fits
  not_never = not_so (never d) (and_right (not (xor (in_octet UTF8-tail d) (wanted a b c)) && not (wrong c d)) (not (never d)) e)

  tail : wanted a b c ≡ true → Tail d
  tail w = let t = tail_as_wanted ∙ w in (in_from 0x80 0xBF d t, in_upto 0x80 0xBF d t)

  no_tail : wanted a b c ≡ false → (d < 0x80) ⊎ ((0xC2 ≤ d) × (d ≤ 0xF4))
  no_tail w = go (dec_le 0x80 d)
    where
      go : Dec (0x80 ≤ d) → (d < 0x80) ⊎ ((0xC2 ≤ d) × (d ≤ 0xF4))
      go (no l) = inl (omega arith)
      go (yes l) =
          let above : 0xBF < d = out_above 0x80 0xBF d (tail_as_wanted ∙ w) l in
          let more : 0xC1 < d = out_above 0xC0 0xC1 d (neither_left (in_octet (0xC0 to 0xC1) d) (leb 0xF5 d) not_never) (omega arith) in
          let less : d < 0xF5 = leb-false 0xF5 d (neither_right (in_octet (0xC0 to 0xC1) d) (leb 0xF5 d) not_never) in
          inr (omega arith, omega arith)

  pub fits_says : Fits a b c d
  fits_says =
      record {
        first = λ h k l. no_tail (rw (lt-leb 0xC2 c h, lt-leb 0xE0 b k, lt-leb 0xF0 a l));
        second = λ h. tail (second_wanted h);
        third = λ h. tail (rw (le-leb 0xE0 b h, or-true (leb 0xC2 c)));
        fourth = λ h. tail (rw (le-leb 0xF0 a h) (or-true (leb 0xC2 c || leb 0xE0 b)));
        after_e0 = λ h. out_above 0x80 0x9F d (rw (eq-eqb c 0xE0 h) at e0) (tail (second_wanted (omega arith))).0;
        after_ed = λ h. in_upto 0x80 0x9F d (not_yes (in_octet (0x80 to 0x9F) d) (rw (eq-eqb c 0xED h) at ed));
        after_f0 = λ h. out_above 0x80 0x8F d (rw (eq-eqb c 0xF0 h) at f0) (tail (second_wanted (omega arith))).0;
        after_f4 = λ h. in_upto 0x80 0x8F d (not_yes (in_octet (0x80 to 0x8F) d) (rw (eq-eqb c 0xF4 h) at f4));
      }
    where
      second_wanted : 0xC2 ≤ c → wanted a b c ≡ true
      second_wanted h = rw (le-leb 0xC2 c h)

      three : (((eqb c 0xE0 && in_octet (0x80 to 0x9F) d) || (eqb c 0xED && not (in_octet (0x80 to 0x9F) d))) || (eqb c 0xF0 && in_octet (0x80 to 0x8F) d)) ≡ false
      three = neither_left _ (eqb c 0xF4 && not (in_octet (0x80 to 0x8F) d)) not_wrong

      f4 : (eqb c 0xF4 && not (in_octet (0x80 to 0x8F) d)) ≡ false
      f4 = neither_right ((eqb c 0xE0 && in_octet (0x80 to 0x9F) d) || (eqb c 0xED && not (in_octet (0x80 to 0x9F) d)) || (eqb c 0xF0 && in_octet (0x80 to 0x8F) d)) _ not_wrong

      f0 : (eqb c 0xF0 && in_octet (0x80 to 0x8F) d) ≡ false
      f0 = neither_right ((eqb c 0xE0 && in_octet (0x80 to 0x9F) d) || (eqb c 0xED && not (in_octet (0x80 to 0x9F) d))) _ three

      two : ((eqb c 0xE0 && in_octet (0x80 to 0x9F) d) || (eqb c 0xED && not (in_octet (0x80 to 0x9F) d))) ≡ false
      two = neither_left _ (eqb c 0xF0 && in_octet (0x80 to 0x8F) d) three

      ed : (eqb c 0xED && not (in_octet (0x80 to 0x9F) d)) ≡ false
      ed = neither_right (eqb c 0xE0 && in_octet (0x80 to 0x9F) d) _ two

      e0 : (eqb c 0xE0 && in_octet (0x80 to 0x9F) d) ≡ false
      e0 = neither_left _ (eqb c 0xED && not (in_octet (0x80 to 0x9F) d)) two

-- ---- ASCII behind ASCII
pub ascii_fits : (a b c d : ℕ) → a < 0x80 → b < 0x80 → c < 0x80 → d < 0x80 → Fits a b c d
ascii_fits a b c d h k l m =
    record {
      first = λ _ _ _. inl m;
      second = λ n. absurd (omega arith);
      third = λ n. absurd (omega arith);
      fourth = λ n. absurd (omega arith);
      after_e0 = λ n. absurd (omega arith);
      after_ed = λ n. absurd (omega arith);
      after_f0 = λ n. absurd (omega arith);
      after_f4 = λ n. absurd (omega arith);
    }
