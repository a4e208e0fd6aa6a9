-- `util::long_number`: what the loop knows is `Counted`, behind zeros at first, with one law for each way out. Assumes nothing.
use Prim.Native.Nat.{◌+◌, ◌*◌, ◌^◌, ◌<◌}
use mathlib.Core.Path.{sym, ◌∙◌}
use native.Mathlib.Omega.{arith}
use Rattle.leaves.proofs.Number.{counted_zeros, zeros_within, counted_step, counted_large, counted_stop, counted_end}
use Rattle.leaves.proofs.util.long_number.Goals as goal
use Rattle.leaves.proofs.util.long_number.Goals.{Joined-else-v-gt-SAFE, else-v-gt-SAFE-via-else-v-gt-SAFE, else-v-gt-SAFE-via-then-v-gt-SAFE+else-d-v}

pub loop-i-init : goal.loop-i-init
loop-i-init c = counted_zeros _ _ _ c.while_in-first.ensures

pub digit_value-d-requires : goal.digit_value-d-requires
digit_value-d-requires c = sym c.is_digit.ensures ∙ c.if-not-is_digit.false

pub returns-then-d-v : goal.returns-then-d-v
returns-then-d-v c =
    rw c.digits_end.ensures
    (counted_large _ _ _ _ c.loop-i.invariant c.loop-i-test.true (sym c.is_digit.ensures ∙ c.if-not-is_digit.false) (omega arith))

-- the value so far is small enough for any digit, or it was tested with this one
fits : (c : Joined-else-v-gt-SAFE) → c.loop-i.v * 10 + c.digit_value-d.result < 2 ^ 64
fits c =
    elim c.else-v-gt-SAFE.branch [ else-v-gt-SAFE-via-then-v-gt-SAFE+else-d-v w ↦ omega (arith, w.if-d-v.false) | else-v-gt-SAFE-via-else-v-gt-SAFE w ↦ omega (arith, w.if-v-gt-SAFE.false) ]

pub overflow_mul-v : goal.overflow_mul-v
overflow_mul-v c = omega (arith, fits (goal.at.overflow_mul-v c).Joined-else-v-gt-SAFE)

pub overflow_add-v : goal.overflow_add-v
overflow_add-v c = omega (arith, fits (goal.at.overflow_add-v c).Joined-else-v-gt-SAFE)

pub loop-i-preserved : goal.loop-i-preserved
loop-i-preserved c =
    rw c.digit_value-d.ensures.0
    (counted_step _ _ _ _ c.loop-i.invariant c.loop-i-test.true (sym c.is_digit.ensures ∙ c.if-not-is_digit.false) (omega (arith, fits (goal.at.loop-i-preserved c).Joined-else-v-gt-SAFE)))

pub returns-then-not-is_digit : goal.returns-then-not-is_digit
returns-then-not-is_digit c =
    rw c.parsed_to.ensures
    (counted_stop _ _ _ _ c.loop-i.invariant c.loop-i-test.true (sym c.is_digit.ensures ∙ c.if-not-is_digit.true))

pub returns : goal.returns
returns c = rw c.parsed_to-2.ensures (counted_end _ _ _ _ c.loop-i.invariant c.loop-i-test.false (λ h. c.loop-i.auto.i-end (zeros_within _ _ _ c.while_in-first.ensures h)))
