-- What the loops of `number_size`, `without_threes` and `fraction_size` know, a turn of each, and its end. Assumes nothing.
use mathlib.Core.Path.{◌≡◌, refl, sym, ◌∙◌, ap}
use Prim.Native.Nat.{ℕ, suc, zero, ◌+◌, ◌-◌, ◌*◌, ◌/◌, ◌%◌, ◌^◌, ◌≤◌, ◌<◌}
use native.Mathlib.Nat.{pow-suc}
use native.Mathlib.Omega.{arith}
use lib.ListN.{length, length-append}
use Rattle.tables.specs.Layout.{second}
use Rattle.digits.specs.Digits.{number_text, fraction_by, fraction_text}
use Rattle.digits.proofs.Number.{number_small, number_more, number_size}
use Rattle.digits.proofs.Length.{fraction_zero_end, fraction_full, fraction_point}

-- the digits counted, the last one among them, and those of what is left
pub record Counting (n size left : ℕ) : Type 0 where
  pub same : size + length (number_text left) ≡ length (number_text n) + 1
  pub most : length (number_text n) ≤ 20
  pub fits : left < 2 ^ 64

pub count_none : (n : ℕ) → n < 2 ^ 64 → Counting n 1 n
count_none n h = record { same = omega arith; most = number_size n h; fits = h }

module _ {n size left : ℕ} (h : Counting n size left) where
  pub count_more : 10 ≤ left → Counting n (size + 1) (left / 10)
  count_more k =
      let e = simp length-append at (ap length (number_more left k h.fits)) in
      record { same = omega (arith, h.same, e); most = h.most; fits = omega (arith, h.fits) }

  pub count_end : left < 10 → size ≡ length (number_text n)
  count_end k = omega (arith, h.same, ap length (number_small left k))

-- the digits that are left of a fraction without the zeros passed
pub record Trimming (f size left : ℕ) : Type 0 where
  pub same : fraction_by size left ≡ fraction_by 9 f
  pub some : 0 < left
  pub below : left < 10 ^ size
  pub most : size ≤ 9

pub trim_none : (f : ℕ) → 0 < f → f < second → Trimming f 9 f
trim_none f h k = record { same = refl; some = h; below = k; most = omega arith }

pub trim_more : (f size left : ℕ) → Trimming f size left → left % 10 ≡ 0 → (0 < size) × Trimming f (size - 1) (left / 10)
trim_more f zero left h k = absurd (omega (arith, h.some, h.below))
trim_more f (suc size) left h k =
    let z : suc size - 1 ≡ size = omega arith in
    let e : left / 10 * 10 ≡ left = omega arith in
    let b : left / 10 < 10 ^ size = omega (arith, h.below, pow-suc 10 size) in (
      omega arith,
      rw z (record {
        same = sym (fraction_zero_end size (left / 10) b) ∙ ap (fraction_by (suc size)) e ∙ h.same;
        some = omega (arith, h.some);
        below = b;
        most = omega (arith, h.most);
      }),
    )

-- three turns at once
pub trim_three : (f size left : ℕ) → Trimming f size left → left % 1000 ≡ 0 → (2 < size) × Trimming f (size - 3) (left / 1000)
trim_three f size left h k =
    let one = trim_more f size left h (omega arith) in
    let two = trim_more f (size - 1) (left / 10) one.1 (omega arith) in
    let three = trim_more f (size - 1 - 1) (left / 10 / 10) two.1 (omega arith) in
    let s : size - 1 - 1 - 1 ≡ size - 3 = omega arith in
    let l : left / 10 / 10 / 10 ≡ left / 1000 = omega arith in
    (omega (arith, two.0, three.0), rw (s, l) at three.1)

pub trim_end : (f size left : ℕ) → Trimming f size left → (f ≡ 0 → ⊥) → (left % 10 ≡ 0 → ⊥) → size + 1 ≡ length (fraction_text f)
trim_end f zero left h q k = absurd (omega (arith, h.some, h.below))
trim_end f (suc size) left h q k = rw (fraction_point f q) (omega (arith, fraction_full size left k, ap length h.same))
