-- A length above 0 moved up to the top of its word: its quotient by 10^9 has 34 or 35 digits, and the leading zeros of the two give its bits (`Rounded`).
-- Assumes nothing.
use mathlib.Core.Path.{◌≡◌, refl, sym, ap, ◌∙◌}
use Prim.Native.Nat.{ℕ, suc, ◌+◌, ◌-◌, ◌*◌, ◌/◌, ◌^◌, ◌≤◌, ◌<◌}
use native.Mathlib.Nat.{le_trans, le_of_eq, lt_irrefl, lt_of_lt_of_le, le_of_suc-le-suc, lt_of_not-le, mul-le-mul_right, mul-lt-mul_of_pos_right, div-div-eq-div-mul}
use native.Mathlib.Omega.{arith}
use lib.Count.{count_leading_zeros, leading_top}
use lib.Dec.{lit<}
use lib.Pow.{pow_pos, pow_mono, pow-add}
use lib.Ieee.{binary32}
use lib.Ieee.Nearest.{closest}
use lib.Ieee.Order.{kept}
use Rattle.tables.specs.Layout.{second}
use Rattle.lengths.specs.Binary32.{seconds_bits}
use Rattle.lengths.proofs.Rounded.{kept_is, kept_high, round_bits}

-- by how many digits the 24 that are kept stand above the quotient's last
abbrev pub shift : ℕ → ℕ
shift n = 63 - count_leading_zeros 64 (n / second) - 23

pub record Scaled (ns n : ℕ) : Type 0 where
  pub up_lt : count_leading_zeros 64 ns < 64
  pub moved : n ≡ ns * 2 ^ count_leading_zeros 64 ns
  pub fits : n < 2 ^ 64
  pub zeros_ge : 29 ≤ count_leading_zeros 64 (n / second)
  pub zeros_le : count_leading_zeros 64 (n / second) ≤ 30
  pub low : 2 ^ (23 + shift n) ≤ ns * 2 ^ count_leading_zeros 64 ns / second
  pub high : ns * 2 ^ count_leading_zeros 64 ns / second < 2 ^ suc (23 + shift n)

module _ (ns : ℕ) (p : 0 < ns) (h : ns < 2 ^ 64) where
  abbrev u : ℕ
  u = count_leading_zeros 64 ns

  abbrev n : ℕ
  n = ns * 2 ^ u

  top : 2 ^ 63 ≤ n
  top =
      let t = leading_top 64 ns p h in
      let e : 63 ≡ t.0 + u = omega arith in
      le_trans (le_of_eq (ap (λ (z : ℕ). 2 ^ z) e ∙ pow-add 2 t.0 u)) (mul-le-mul_right (2 ^ u) t.2)

  word : n < 2 ^ 64
  word =
      let t = leading_top 64 ns p h in
      let e : suc t.0 + u ≡ 64 = omega arith in
      lt_of_lt_of_le (mul-lt-mul_of_pos_right t.3 (pow_pos u)) (le_of_eq (sym (pow-add 2 (suc t.0) u) ∙ ap (λ (z : ℕ). 2 ^ z) e))

  raised : Scaled ns n
  raised =
      let q = n / second in
      let a : 2 ^ 33 ≤ q = omega (arith, top) in
      let b : q < 2 ^ 35 = omega (arith, word) in
      let r = leading_top 64 ns p h in
      let t = leading_top 64 q (omega arith) (omega arith) in
      let l : 33 ≤ t.0 = le_of_suc-le-suc (lt_of_not-le (λ (g : suc t.0 ≤ 33). lt_irrefl q (lt_of_lt_of_le t.3 (le_trans (pow_mono g) a)))) in
      let m : t.0 < 35 = lt_of_not-le (λ (g : 35 ≤ t.0). lt_irrefl q (lt_of_lt_of_le b (le_trans (pow_mono g) t.2))) in
      let e : t.0 ≡ 23 + shift n = omega arith in
      record {
        up_lt = omega arith;
        moved = refl;
        fits = word;
        zeros_ge = omega arith;
        zeros_le = omega arith;
        low = rw (← e) t.2;
        high = rw (← e) t.3;
      }

pub scaled : (ns n : ℕ) → 0 < ns → ns < 2 ^ 64 → n ≡ ns * 2 ^ count_leading_zeros 64 ns → Scaled ns n
scaled ns n p h e = rw e (raised ns p h)

pub unit_fits : {ns n : ℕ} → Scaled ns n → (1 < second * 2 ^ shift n) × (second * 2 ^ shift n < 2 ^ 63)
unit_fits {ns} {n} S =
    let m : 2 ^ shift n ≤ 2 ^ 11 = pow_mono {j = 11} (omega arith) in
    let p : 0 < 2 ^ shift n = pow_pos (shift n) in
    (omega arith, omega arith)

-- the quotient by the unit is the quotient by 10^9 without those digits
pub quotient_moved : (n unit : ℕ) → unit ≡ second * 2 ^ shift n → n / second / 2 ^ shift n ≡ n / unit
quotient_moved n unit e = div-div-eq-div-mul n second (2 ^ shift n) ∙ ap (λ (z : ℕ). n / z) (sym e)

-- with the digits d in hand
module _ {ns n unit d : ℕ} (S : Scaled ns n) (u : unit ≡ second * 2 ^ shift n) (e : d ≡ closest n unit) where
  digits_are : d ≡ closest (ns * 2 ^ count_leading_zeros 64 ns) (second * 2 ^ shift n)
  digits_are = e ∙ ap (λ (z : ℕ). closest n z) u ∙ ap (λ (z : ℕ). closest z (second * 2 ^ shift n)) S.moved

  pub digits_le : d ≤ 2 ^ 24
  digits_le = rw digits_are (kept_high binary32 ns second 23 (count_leading_zeros 64 ns) (shift n) refl (lit< tt) (omega arith) S.low S.high)

  pub digits_kept : d ≡ kept 24 (ns * 2 ^ 149) second
  digits_kept = digits_are ∙ sym (kept_is binary32 ns second 23 (count_leading_zeros 64 ns) (shift n) refl (lit< tt) (omega arith) S.low S.high)

  pub bits_are : (shift n + 149 - count_leading_zeros 64 ns) * 8388608 + d ≡ seconds_bits ns
  unfolding seconds_bits
  bits_are =
      let k : shift n + 149 - count_leading_zeros 64 ns ≡ shift n + (149 - count_leading_zeros 64 ns) = omega arith in
      rw (k, digits_are) (sym (round_bits binary32 ns second 23 (count_leading_zeros 64 ns) (shift n) refl (lit< tt) (omega arith) S.low S.high (omega arith)))
