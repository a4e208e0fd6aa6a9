-- A length's digits: those of its fraction one by one, without its trailing zeros, how many there are, and that they read back. Assumes nothing.
use mathlib.Core.Path.{◌≡◌, refl, sym, ◌∙◌, ap}
use mathlib.Core.Bool.{Bool, true, false, cond}
use mathlib.Core.List.{List, [], ◌∷◌}
use Prim.Native.Nat.{ℕ, suc, zero, ◌+◌, ◌-◌, ◌*◌, ◌/◌, ◌%◌, ◌^◌, ◌≤◌, ◌<◌}
use native.Mathlib.Nat.{div-lt_iff_lt-mul, div-add-mod', mul-div-mul_right, mod-lt, mod-mod_of_dvd, pow-suc, pow-succ', dvd-mul_left, sub-zero}
use native.Mathlib.Omega.{arith}
use lib.Dec.{eqb, lit<}
use lib.ListN.{length, length-append}
use borrow.Author.Tests.{eq-eqb, ne_eqb, eqb-true, eqb-false}
use Rattle.text.specs.Nom.{is_digit, decimal}
use Rattle.text.proofs.Ahead.{Every}
use Rattle.tables.specs.Layout.{second}
use Rattle.digits.specs.Digits.{number_text, fraction_by, fraction_text, length_text}
use Rattle.digits.proofs.Number.{digit_is, decimal_none, decimal_digit, number_short, Digits, digits_of}

ten_pos : (k : ℕ) → 0 < 10 ^ k
ten_pos zero = omega arith
ten_pos (suc k) = rw pow-suc (omega (arith, ten_pos k))

-- a fraction of k + 1 digits: its first digit, and what is left for k
pub record Split (k f : ℕ) : Type 0 where
  pub digit : f / 10 ^ k < 10
  pub left : f % 10 ^ k < 10 ^ k
  pub joined : f / 10 ^ k * 10 ^ k + f % 10 ^ k ≡ f

pub split : (k f : ℕ) → f < 10 ^ suc k → Split k f
split k f h =
    record {
      digit = (div-lt_iff_lt-mul (ten_pos k)).1 (rw pow-succ' at h);
      left = mod-lt f (ten_pos k);
      joined = div-add-mod' f (10 ^ k);
    }

-- ---- one digit more, and none
pub fraction_none : (k : ℕ) → fraction_by k 0 ≡ []
unfolding fraction_by
fraction_none zero = refl
fraction_none (suc k) = refl

pub fraction_more : (k f : ℕ) → (f ≡ 0 → ⊥) → fraction_by (suc k) f ≡ (48 + f / 10 ^ k) ∷ fraction_by k (f % 10 ^ k)
unfolding fraction_by
fraction_more k f h = rw (ne_eqb f 0 h)

-- by cases on whether something is left
module _ (P : List ℕ → Type 0) (k f : ℕ) where
  by_left : (f ≡ 0 → P []) → ((f ≡ 0 → ⊥) → P ((48 + f / 10 ^ k) ∷ fraction_by k (f % 10 ^ k))) → P (fraction_by (suc k) f)
  unfolding fraction_by
  by_left a b = go (eqb f 0) refl
    where
      go : (c : Bool) → eqb f 0 ≡ c → P (cond c [] ((48 + f / 10 ^ k) ∷ fraction_by k (f % 10 ^ k)))
      go true q = a (eqb-true f 0 q)
      go false q = b (eqb-false f 0 q)

-- ---- how many
pub fraction_short : (k f : ℕ) → length (fraction_by k f) ≤ k
unfolding fraction_by
fraction_short zero f = omega arith
fraction_short (suc k) f = by_left (λ l. length l ≤ suc k) k f (λ q. omega arith) (λ q. omega (arith, fraction_short k (f % 10 ^ k)))

pub fraction_first : (k f : ℕ) → (f ≡ 0 → ⊥) → 0 < length (fraction_by (suc k) f)
fraction_first k f h = rw (fraction_more k f h) (omega arith)

-- ---- what they are
pub fraction_digits : (k f : ℕ) → f < 10 ^ k → Every is_digit (fraction_by k f)
unfolding fraction_by Every
fraction_digits zero f h = tt
fraction_digits (suc k) f h =
    let s = split k f h in
    by_left (Every is_digit) k f (λ q. tt) (λ q. (digit_is (f / 10 ^ k) s.digit, fraction_digits k (f % 10 ^ k) s.left))

-- ---- they read back: so many zeros behind them are the fraction again (acc: of the digits before)
fraction_behind : (k f acc : ℕ) → f < 10 ^ k → decimal acc (fraction_by k f) * 10 ^ (k - length (fraction_by k f)) ≡ acc * 10 ^ k + f
unfolding fraction_by
fraction_behind zero f acc h = rw decimal_none (omega arith)
fraction_behind (suc k) f acc h =
    let s = split k f h in
    let d = f / 10 ^ k in
    let l = fraction_by k (f % 10 ^ k) in
    by_left (λ l. decimal acc l * 10 ^ (suc k - length l) ≡ acc * 10 ^ suc k + f) k f
    (λ q. rw (decimal_none, sub-zero (suc k)) (omega arith))
    (λ q.
    let z : suc k - length ((48 + d) ∷ l) ≡ k - length l = omega arith in
    rw (decimal_digit acc d l s.digit, z, fraction_behind k (f % 10 ^ k) (acc * 10 + d) s.left, pow-succ' 10 k) (omega (arith, s.joined)))

pub fraction_back : (k f : ℕ) → f < 10 ^ k → decimal 0 (fraction_by k f) * 10 ^ (k - length (fraction_by k f)) ≡ f
fraction_back k f h = fraction_behind k f 0 h ∙ omega arith

pub fraction_parts : (k f : ℕ) → (f ≡ 0 → ⊥) → f < 10 ^ suc k → Digits (fraction_by (suc k) f) (decimal 0 (fraction_by (suc k) f))
fraction_parts k f q h = digits_of _ _ (fraction_first k f q) (fraction_digits (suc k) f h) refl

-- ---- from the other end: a zero that no digit writes, and a last digit that is none
pub fraction_zero_end : (k f : ℕ) → f < 10 ^ k → fraction_by (suc k) (f * 10) ≡ fraction_by k f
unfolding fraction_by
fraction_zero_end zero f h = let z : f ≡ 0 = omega arith in rw z
fraction_zero_end (suc k) f h =
    let s = split k f h in
    let quotient : f * 10 / 10 ^ suc k ≡ f / 10 ^ k = rw pow-suc (mul-div-mul_right f (10 ^ k) (lit< tt)) in
    let joined : f / 10 ^ k * (10 ^ k * 10) + f * 10 % 10 ^ suc k ≡ f * 10 = rw (← pow-suc 10 k, ← quotient) (div-add-mod' (f * 10) (10 ^ suc k)) in
    let left : f * 10 % 10 ^ suc k ≡ f % 10 ^ k * 10 = omega (arith, joined, s.joined) in
    by_left (λ l. fraction_by (suc (suc k)) (f * 10) ≡ l) k f
    (λ q. rw q)
    (λ q. fraction_more (suc k) (f * 10) (λ z. q (omega arith)) ∙ (rw (quotient, left, fraction_zero_end k (f % 10 ^ k) s.left)))

pub fraction_full : (k f : ℕ) → (f % 10 ≡ 0 → ⊥) → length (fraction_by (suc k) f) ≡ suc k
fraction_full zero f h = rw (fraction_more 0 f (λ q. h (omega arith))) (ap suc (omega (arith, fraction_short 0 (f % 10 ^ 0))))
fraction_full (suc k) f h =
    let m : f % 10 ^ suc k % 10 ≡ f % 10 = mod-mod_of_dvd 10 f (rw pow-suc (dvd-mul_left 10 (10 ^ k))) in
    rw (fraction_more (suc k) f (λ q. h (omega arith))) (ap suc (fraction_full k (f % 10 ^ suc k) (λ q. h (sym m ∙ q))))

-- ---- the point and the digits, and the whole length
pub fraction_point : (f : ℕ) → (f ≡ 0 → ⊥) → fraction_text f ≡ 46 ∷ fraction_by 9 f
unfolding fraction_text
fraction_point f h = rw (ne_eqb f 0 h)

pub fraction_whole : (f : ℕ) → f ≡ 0 → fraction_text f ≡ []
unfolding fraction_text
fraction_whole f h = rw (eq-eqb f 0 h)

pub fraction_size : (f : ℕ) → length (fraction_text f) ≤ 10
unfolding fraction_text
fraction_size f = go (eqb f 0)
  where
    go : (b : Bool) → length (cond b [] (46 ∷ fraction_by 9 f)) ≤ 10
    go true = omega arith
    go false = omega (arith, fraction_short 9 f)

pub length_parts : (ns : ℕ) → length (length_text ns) ≡ length (number_text (ns / second)) + length (fraction_text (ns % second))
unfolding length_text
length_parts ns = length-append (number_text (ns / second)) (fraction_text (ns % second))

-- a length whose seconds are below 10 ^ (k + 1)
length_short : (k ns : ℕ) → ns / second < 10 ^ suc k → length (length_text ns) ≤ suc k + 10
length_short k ns h = omega (arith, length_parts ns, number_short k (ns / second) h, fraction_size (ns % second))

pub length_size : (ns : ℕ) → ns < 10 ^ 18 → length (length_text ns) ≤ 19
length_size ns h = length_short 8 ns (omega arith)

-- any word
pub length_most : (ns : ℕ) → ns < 2 ^ 64 → length (length_text ns) ≤ 21
length_most ns h = length_short 10 ns (omega arith)
