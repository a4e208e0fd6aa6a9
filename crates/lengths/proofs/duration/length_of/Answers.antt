-- `lengths::duration::length_of` meets its contract: nine digits a side are below 10^9 seconds, so that nothing wraps. Assumes nothing.
use native.Mathlib.Omega.{arith}
use Prim.Native.Nat.{◌*◌, ◌<◌}
use borrow.Author.Tests.{le-leb, lt-leb}
use Rattle.tables.specs.Layout.{second}
use Rattle.lengths.proofs.Sides.{side_below, padded_below}
use Rattle.lengths.proofs.duration.length_of.Goals as goal
use Rattle.lengths.proofs.duration.length_of.Goals.{After-struct_known-5-1, Else-left-gt-SIDE_DIGITS}

pub returns-then-left-gt-SIDE_DIGITS : goal.returns-then-left-gt-SIDE_DIGITS
returns-then-left-gt-SIDE_DIGITS c = rw (lt-leb _ _ c.if-left-gt-SIDE_DIGITS.true)

pub returns-then-right-gt-SIDE_DIGITS : goal.returns-then-right-gt-SIDE_DIGITS
returns-then-right-gt-SIDE_DIGITS c = rw (le-leb _ _ c.if-left-gt-SIDE_DIGITS.false, lt-leb _ _ c.if-right-gt-SIDE_DIGITS.true)

-- the digits before the point are below 10^9, and the fraction is below a second
whole : (c : Else-left-gt-SIDE_DIGITS) → c.args.left.value < second
whole c = side_below _ _ c.if-left-gt-SIDE_DIGITS.false c.requires.0

pub overflow_mul-result : goal.overflow_mul-result
overflow_mul-result c = omega (arith, whole (goal.at.overflow_mul-result c).Else-left-gt-SIDE_DIGITS)

scaled : (c : After-struct_known-5-1) → c.args.right.value * c.ten_to.result < second
scaled c = rw c.ten_to.ensures (padded_below _ _ c.if-right-gt-SIDE_DIGITS.false c.requires.1)

pub overflow_mul-result-2 : goal.overflow_mul-result-2
overflow_mul-result-2 c = omega (arith, scaled (goal.at.overflow_mul-result-2 c).After-struct_known-5-1)

pub overflow_add-result : goal.overflow_add-result
overflow_add-result c = omega (arith, whole (goal.at.overflow_add-result c).Else-left-gt-SIDE_DIGITS, scaled (goal.at.overflow_add-result c).After-struct_known-5-1)

pub returns : goal.returns
returns c = rw (le-leb _ _ c.if-left-gt-SIDE_DIGITS.false, le-leb _ _ c.if-right-gt-SIDE_DIGITS.false, c.ten_to.ensures)
