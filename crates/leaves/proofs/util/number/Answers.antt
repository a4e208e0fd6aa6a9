-- `util::number`: what the loop knows (`Counted`), of digits so few that they fit, and one law for each way out; or what `long_number` ensures.
-- Assumes nothing.
use Prim.Native.Nat.{◌+◌, ◌*◌, ◌-◌, ◌<◌, ◌^◌}
use mathlib.Core.Path.{◌≡◌, refl, sym, ◌∙◌}
use native.Mathlib.Omega.{arith}
use Rattle.leaves.proofs.Number.{counted_step, counted_stop, counted_end, digits_below, fits_below}
use Rattle.leaves.proofs.util.number.Goals as goal
use Rattle.leaves.proofs.util.number.Goals.{Else-i-at-ge-FITTING}

pub loop-i-init : goal.loop-i-init
loop-i-init c =
    let a = c.args in
    let z : a.at - a.at ≡ 0 = omega arith in
    (record { run = refl; value = refl; from = omega arith; small = omega arith }, rw z (omega arith))

pub overflow_sub-i : goal.overflow_sub-i
overflow_sub-i c = c.loop-i.invariant.0.from

pub returns-then-i-at-ge-FITTING : goal.returns-then-i-at-ge-FITTING
returns-then-i-at-ge-FITTING c = c.long_number.ensures

-- so few digits so far that one more fits
fits : (c : Else-i-at-ge-FITTING) → c.loop-i.v * 10 + 9 < 2 ^ 64
fits c =
    let l = c.loop-i in
    let a = c.args in
    fits_below a.at l.i l.v (omega (arith, c.if-i-at-ge-FITTING.false)) l.invariant.1

pub overflow_mul-v : goal.overflow_mul-v
overflow_mul-v c = omega (arith, fits (goal.at.overflow_mul-v c).Else-i-at-ge-FITTING)

pub digit_value-requires : goal.digit_value-requires
digit_value-requires c = sym c.is_digit.ensures ∙ c.if-not-is_digit.false

pub overflow_add-v : goal.overflow_add-v
overflow_add-v c = omega (arith, fits (goal.at.overflow_add-v c).Else-i-at-ge-FITTING, c.digit_value.ensures.1)

pub loop-i-preserved : goal.loop-i-preserved
loop-i-preserved c =
    let l = c.loop-i in
    let a = c.args in
    let d = c.digit_value.ensures in (
      rw d.0 (counted_step _ _ _ _ l.invariant.0 c.loop-i-test.true (sym c.is_digit.ensures ∙ c.if-not-is_digit.false) (omega (arith, fits (goal.at.loop-i-preserved c).Else-i-at-ge-FITTING, d))),
      digits_below a.at l.i l.v _ l.invariant.0.from l.invariant.1 d.1,
    )

pub returns-then-not-is_digit : goal.returns-then-not-is_digit
returns-then-not-is_digit c = rw c.parsed_to.ensures (counted_stop _ _ _ _ c.loop-i.invariant.0 c.loop-i-test.true (sym c.is_digit.ensures ∙ c.if-not-is_digit.true))

pub returns : goal.returns
returns c = rw c.parsed_to-2.ensures (counted_end _ _ _ _ c.loop-i.invariant.0 c.loop-i-test.false c.loop-i.auto.i-end)
