-- The bits of a fraction that `lib.Ieee` rounds, worked out at another scale: a / c is moved up by 2 ^ up, where its whole part's highest digit is digit p + sh.
-- Then the digits kept are the nearest whole number to a * 2 ^ up / (c * 2 ^ sh), and the bits follow. Assumes nothing.
use mathlib.Core.Path.{◌≡◌, sym, ap, ◌∙◌, subst}
use mathlib.Core.Bool.{false}
use mathlib.Core.Logic.{⊎_elim}
use Prim.Native.Nat.{ℕ, suc, ◌+◌, ◌-◌, ◌*◌, ◌/◌, ◌%◌, ◌^◌, ◌≤◌, ◌<◌, compare}
use native.Mathlib.Nat.{le_trans, le_of_eq, le_antisymm, lt_irrefl, lt_of_lt_of_le, lt_of_le_of_lt, lt_of_not-le, eq-or-lt_of_le, zero-add, add-suc, suc-add, mul_assoc, mul_comm, mul_right_comm, mul_left_comm, mul-pos, mul-le-mul_right, mul-lt-mul_of_pos_right, mul-div_cancel, le-div_iff_mul-le, div-lt_iff_lt-mul, div-div-eq-div-mul, div-le_self}
use native.Mathlib.Omega.{arith}
use lib.Pow.{pow_pos, pow_mono, pow-lt, pow-add, shl-shr}
use lib.Ieee.{Float, nan, inf, fin, Format, prec, emax, low, hid, up, down, size, round, to_bits}
use lib.Ieee.Digits.{size-lt, size-le}
use lib.Ieee.Exact.{HasValue}
use lib.Ieee.Fits.{two, reach, down_pos, nearest-le, kept-lt}
use lib.Ieee.Nearest.{closest, closest_same, nearest-ge}
use lib.Ieee.Order.{drop, kept}
use lib.Ieee.Scale.{grid, overflow, round_val}

-- ---- how many digits
size_gt : (n j : ℕ) → 2 ^ j ≤ n → j < size n
size_gt n j h = lt_of_not-le (λ (g : size n ≤ j). lt_irrefl n (lt_of_lt_of_le (size-lt n) (le_trans (pow_mono g) h)))

pub size_is : (n j : ℕ) → 2 ^ j ≤ n → n < 2 ^ suc j → size n ≡ suc j
size_is n j lo hi = le_antisymm (size-le n (suc j) hi) (size_gt n j lo)

-- ---- the bits of g times the format's smallest value
abbrev pub bits_of : Format → ℕ → ℕ
bits_of f g = (size g - prec f) * hid f + g / 2 ^ (size g - prec f)

pub value_bits : (f : Format) (x : Float) (g : ℕ) → HasValue x false g (2 ^ low f) → to_bits f x ≡ bits_of f g
unfolding to_bits
value_bits f nan g v = absurd v
value_bits f (inf s) g v = absurd v
value_bits f (fin s m e) g v =
    let n : m * up e * 2 ^ low f / down e ≡ g = ap (λ (z : ℕ). z / down e) v.1 ∙ mul-div_cancel g (down_pos e) in
    rw (v.0, n, zero-add)

-- of q * 2 ^ k, with q of prec digits, or 2 ^ prec
module _ (f : Format) (p q k : ℕ) (P : prec f ≡ suc p) where
  full : q ≡ 2 ^ suc p → bits_of f (q * 2 ^ k) ≡ k * hid f + q
  full e =
      let v : q * 2 ^ k ≡ 2 ^ (suc p + k) = ap (λ (z : ℕ). z * 2 ^ k) e ∙ sym (pow-add 2 (suc p) k) in
      let hi : q * 2 ^ k < 2 ^ suc (suc p + k) = subst (λ (z : ℕ). z < 2 ^ suc (suc p + k)) (sym v) (omega (arith, pow_pos (suc p + k))) in
      let s : size (q * 2 ^ k) - prec f ≡ suc k = rw (size_is (q * 2 ^ k) (suc p + k) (le_of_eq (sym v)) hi, P) (omega arith) in
      let h : hid f ≡ 2 ^ p = rw P (ap (λ (z : ℕ). 2 ^ z) (omega arith)) in
      let d : q * 2 ^ k / 2 ^ suc k ≡ 2 ^ p = rw (v, suc-add, ← add-suc, pow-add) (mul-div_cancel (2 ^ p) (pow_pos (suc k))) in
      rw (s, d, h, e) (omega arith)

  less : 2 ^ p ≤ q → q < 2 ^ suc p → bits_of f (q * 2 ^ k) ≡ k * hid f + q
  less lo h =
      let lo' : 2 ^ (p + k) ≤ q * 2 ^ k = rw pow-add (mul-le-mul_right (2 ^ k) lo) in
      let hi' : q * 2 ^ k < 2 ^ suc (p + k) = rw (← suc-add, pow-add) (mul-lt-mul_of_pos_right h (pow_pos k)) in
      let s : size (q * 2 ^ k) - prec f ≡ k = rw (size_is (q * 2 ^ k) (p + k) lo' hi', P) (omega arith) in
      rw (s, shl-shr)

  grid_bits : 2 ^ p ≤ q → q ≤ 2 ^ suc p → bits_of f (q * 2 ^ k) ≡ k * hid f + q
  grid_bits lo hi = ⊎_elim full (less lo) (eq-or-lt_of_le hi)

-- ---- a / c, whose whole part once moved up by 2 ^ up has its highest digit at p + sh
module _ (f : Format) (a c p up sh : ℕ) (P : prec f ≡ suc p) (C : 0 < c) (U : up ≤ low f)
    (lo : 2 ^ (p + sh) ≤ a * 2 ^ up / c) (hi : a * 2 ^ up / c < 2 ^ suc (p + sh)) where
  moved : a * 2 ^ low f ≡ a * 2 ^ up * 2 ^ (low f - up)
  moved =
      let e : low f ≡ up + (low f - up) = omega arith in
      ap (λ (z : ℕ). a * 2 ^ z) e ∙ rw (pow-add, ← mul_assoc)

  drop_is : drop (prec f) (a * 2 ^ low f) c ≡ sh + (low f - up)
  drop_is =
      let r = low f - up in
      let n = a * 2 ^ up in
      let l : 2 ^ (p + sh + r) ≤ n * 2 ^ r / c
      = (le-div_iff_mul-le C).1 (rw (pow-add, mul_right_comm (2 ^ (p + sh)) (2 ^ r) c) (mul-le-mul_right (2 ^ r) ((le-div_iff_mul-le C).0 lo))) in
      let h : n * 2 ^ r / c < 2 ^ suc (p + sh + r)
      = (div-lt_iff_lt-mul C).1
      (rw (← suc-add, pow-add 2 (suc (p + sh)) r, mul_right_comm (2 ^ suc (p + sh)) (2 ^ r) c) (mul-lt-mul_of_pos_right ((div-lt_iff_lt-mul C).0 hi) (pow_pos r))) in
      rw (moved, size_is (n * 2 ^ r / c) (p + sh + r) l h, P) (omega arith)

  pub kept_is : kept (prec f) (a * 2 ^ low f) c ≡ closest (a * 2 ^ up) (c * 2 ^ sh)
  kept_is =
      let r = low f - up in
      let n = a * 2 ^ up in
      ap (λ (z : ℕ). closest (a * 2 ^ low f) (c * 2 ^ z)) drop_is
      ∙ ap (λ (z : ℕ). closest z (c * 2 ^ (sh + r))) moved
      ∙ closest_same (n * 2 ^ r) (c * 2 ^ (sh + r)) n (c * 2 ^ sh) (mul-pos C (pow_pos (sh + r))) (mul-pos C (pow_pos sh))
      (simp (mul_assoc, mul_comm, mul_left_comm, pow-add))

  whole_is : a * 2 ^ up / (c * 2 ^ sh) ≡ a * 2 ^ up / c / 2 ^ sh
  whole_is = sym (div-div-eq-div-mul (a * 2 ^ up) c (2 ^ sh))

  kept_low : 2 ^ p ≤ closest (a * 2 ^ up) (c * 2 ^ sh)
  kept_low =
      let n = a * 2 ^ up in
      let u = c * 2 ^ sh in
      let w : 2 ^ p ≤ n / c / 2 ^ sh = (le-div_iff_mul-le (pow_pos sh)).1 (rw (← pow-add) lo) in
      le_trans (rw whole_is w) (nearest-ge (n / u) (compare (n % u * 2) u))

  pub kept_high : closest (a * 2 ^ up) (c * 2 ^ sh) ≤ 2 ^ suc p
  kept_high =
      let n = a * 2 ^ up in
      let u = c * 2 ^ sh in
      let w : n / c / 2 ^ sh < 2 ^ suc p = (div-lt_iff_lt-mul (pow_pos sh)).1 (rw (← pow-add, suc-add) hi) in
      le_trans (nearest-le (n / u) (compare (n % u * 2) u)) (rw whole_is w)

  pub round_bits : p + sh < emax f → to_bits f (round f false a c) ≡ (sh + (low f - up)) * hid f + closest (a * 2 ^ up) (c * 2 ^ sh)
  round_bits E =
      let q = closest (a * 2 ^ up) (c * 2 ^ sh) in
      let k = sh + (low f - up) in
      let g : grid f a c ≡ q * 2 ^ k = rw (kept_is, drop_is) in
      let under : grid f a c < overflow f
      = rw g (lt_of_le_of_lt (mul-le-mul_right (2 ^ k) kept_high) (rw (← pow-add) (pow-lt (omega arith)))) in
      value_bits f (round f false a c) (grid f a c) (round_val f a c under) ∙ ap (bits_of f) g ∙ grid_bits f p q k P kept_low kept_high

-- ---- a fraction below 2 ^ b, where b is at most the largest exponent, rounds to a finite value
pub grid_under : (f : Format) (a c b : ℕ) → a < 2 ^ b → b ≤ emax f → grid f a c < overflow f
grid_under f a c b h B =
    let n = a * 2 ^ low f in
    let s = size (n / c) in
    let k = s - prec f in
    let u = c * 2 ^ k in
    let t : s ≤ b + low f = size-le (n / c) (b + low f) (lt_of_le_of_lt (div-le_self n c) (rw pow-add (mul-lt-mul_of_pos_right h (pow_pos (low f))))) in
    let w : n / u < 2 ^ prec f = rw (← div-div-eq-div-mul) (kept-lt (prec f) (n / c)) in
    let q : closest n u ≤ 2 ^ prec f = le_trans (nearest-le (n / u) (compare (n % u * 2) u)) w in
    lt_of_le_of_lt (mul-le-mul_right (2 ^ k) q) (rw (← pow-add) (pow-lt (omega (arith, two f, reach f))))
