-- `util::digit_value`: the bounds of a digit. Assumes nothing.
use native.Mathlib.Omega.{arith}
use Rattle.text.proofs.Laws.{digit_bounds}
use Rattle.leaves.proofs.util.digit_value.Goals as goal

pub overflow_sub-result : goal.overflow_sub-result
overflow_sub-result c = omega (arith, digit_bounds _ c.requires)

pub returns : goal.returns
returns c = omega (arith, digit_bounds _ c.requires)
