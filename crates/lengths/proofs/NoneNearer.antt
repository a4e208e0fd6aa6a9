-- No number that a format can hold is nearer to a fraction a / c than what `lib.Ieee` rounds it to, and where another is as near, the last digit kept is even.
-- All is in units of the format's smallest value, times c: `grid f a c * c` against `a * 2 ^ low f`. It rests on `Closest`. Assumes nothing.
use mathlib.Core.Path.{◌≡◌, sym, ap, ◌∙◌}
use mathlib.Core.Bool.{Bool, true, false, not}
use Prim.Native.Nat.{ℕ, ◌+◌, ◌-◌, ◌*◌, ◌/◌, ◌%◌, ◌^◌, ◌≤◌, ◌<◌}
use native.Mathlib.Nat.{lt_of_lt_of_le, mul_assoc, mul_comm, mul-pos, mul-lt-mul_of_pos_right, le-div_iff_mul-le}
use native.Mathlib.Omega.{arith}
use lib.Pow.{pow_pos, pow_mono, pow-add}
use lib.Dec.{T, leb, leb→le, nleb→lt}
use lib.Ieee.{Format, prec, low}
use lib.Ieee.Digits.{size_reaches}
use lib.Ieee.Fits.{two}
use lib.Ieee.Nearest.{closest}
use lib.Ieee.Order.{drop, kept}
use lib.Ieee.Scale.{grid}
use Rattle.lengths.specs.Binary32.{dist}
use Rattle.lengths.proofs.Closest.{half, multiple, multiple_even}

module _ (f : Format) (a c : ℕ) (C : 0 < c) where
  abbrev n : ℕ
  n = a * 2 ^ low f

  abbrev k : ℕ
  k = drop (prec f) n c

  abbrev u : ℕ
  u = c * 2 ^ k

  is_grid : closest n u * u ≡ grid f a c * c
  is_grid = ap (λ (z : ℕ). closest n u * z) (mul_comm c (2 ^ k)) ∙ sym (mul_assoc (closest n u) (2 ^ k) c)

  -- with as many low zeros as digits were dropped, a number is a multiple of the unit
  coarse : (q j : ℕ) → k ≤ j → q * 2 ^ j ≡ q * 2 ^ (j - k) * 2 ^ k
  coarse q j h =
      let e : j ≡ j - k + k = omega arith in
      ap (λ (z : ℕ). q * 2 ^ z) e ∙ rw (pow-add, ← mul_assoc)

  coarse_unit : (q j : ℕ) → k ≤ j → q * 2 ^ j * c ≡ q * 2 ^ (j - k) * u
  coarse_unit q j h = ap (λ (z : ℕ). z * c) (coarse q j h) ∙ mul_assoc (q * 2 ^ (j - k)) (2 ^ k) c ∙ ap (λ (z : ℕ). q * 2 ^ (j - k) * z) (mul_comm (2 ^ k) c)

  -- with fewer, it is below the highest digit of the fraction's whole part
  fine : (q j : ℕ) → q < 2 ^ prec f → j < k → dist (grid f a c * c) n < dist (q * 2 ^ j * c) n
  fine q j hq h =
      let t : 2 ≤ prec f = two f in
      let d = 2 ^ (prec f - 1) in
      let e : d * u ≡ 2 ^ (prec f - 1 + k) * c = rw (pow-add, mul_comm c (2 ^ k), ← mul_assoc) in
      let top : d * u ≤ n = rw e ((le-div_iff_mul-le C).0 (size_reaches (n / c) (prec f - 1 + k) (omega arith))) in
      let below : q * 2 ^ j < 2 ^ (prec f - 1 + k)
      = lt_of_lt_of_le (mul-lt-mul_of_pos_right hq (pow_pos j)) (rw (← pow-add) (pow_mono {j = prec f - 1 + k} (omega arith))) in
      let x : q * 2 ^ j * c < d * u = rw e (mul-lt-mul_of_pos_right below C) in
      let m = multiple n u (closest n u) d (half n u (mul-pos C (pow_pos k))) in
      rw (← is_grid) (omega arith)

  pub none_nearer : (q j : ℕ) → q < 2 ^ prec f → dist (grid f a c * c) n ≤ dist (q * 2 ^ j * c) n
  none_nearer q j hq = go (leb k j) (leb→le k j) (nleb→lt k j)
    where
      go : (b : Bool) → (T b → k ≤ j) → (T (not b) → j < k) → dist (grid f a c * c) n ≤ dist (q * 2 ^ j * c) n
      go true x y = rw (← is_grid, coarse_unit q j (x tt)) (multiple n u (closest n u) (q * 2 ^ (j - k)) (half n u (mul-pos C (pow_pos k))))
      go false x y = omega (arith, fine q j hq (y tt))

  pub ties_even : (q j : ℕ) → q < 2 ^ prec f → dist (q * 2 ^ j * c) n ≡ dist (grid f a c * c) n → (q * 2 ^ j ≡ grid f a c → ⊥) → kept (prec f) n c % 2 ≡ 0
  ties_even q j hq e ne = go (leb k j) (leb→le k j) (nleb→lt k j)
    where
      go : (b : Bool) → (T b → k ≤ j) → (T (not b) → j < k) → kept (prec f) n c % 2 ≡ 0
      go true x y =
          multiple_even n u (q * 2 ^ (j - k)) (mul-pos C (pow_pos k)) (rw (is_grid, ← coarse_unit q j (x tt)) e) (λ r. ne (coarse q j (x tt) ∙ ap (λ (z : ℕ). z * 2 ^ k) r))
      go false x y = omega (arith, fine q j hq (y tt))
