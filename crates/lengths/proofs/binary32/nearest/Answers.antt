-- `lengths::binary32::nearest` meets its contract: each of its three ways is one of `closest`'s. A unit above 1 leaves room for the one that is added.
-- Assumes nothing.
use mathlib.Core.Path.{◌≡◌, sym}
use Prim.Native.Nat.{◌+◌, ◌*◌, ◌%◌, ◌≤◌}
use native.Mathlib.Nat.{le_trans, mod-lt, mul-le-mul_left}
use native.Mathlib.Omega.{arith}
use Rattle.lengths.proofs.Closest.{quotient_rest, closest_down, closest_tie, closest_up}
use Rattle.lengths.proofs.binary32.nearest.Goals as goal
use Rattle.lengths.proofs.binary32.nearest.Goals.{Start}

rest : (c : Start) → c.args.whole * c.args.unit + c.args.n % c.args.unit ≡ c.args.n
rest c = quotient_rest _ _ _ c.requires.2

pub overflow_mul-twice : goal.overflow_mul-twice
overflow_mul-twice c = omega (arith, rest (goal.at.overflow_mul-twice c).Start)

pub overflow_sub-twice : goal.overflow_sub-twice
overflow_sub-twice c = omega (arith, rest (goal.at.overflow_sub-twice c).Start)

pub overflow_mul-twice-2 : goal.overflow_mul-twice-2
overflow_mul-twice-2 c = omega (arith, rest (goal.at.overflow_mul-twice-2 c).Start, mod-lt c.args.n {m = c.args.unit} (omega arith))

pub returns-then-twice-unit : goal.returns-then-twice-unit
returns-then-twice-unit c = sym (closest_down _ _ _ c.requires.2 c.if-twice-unit.true)

half_le : (c : Start) → c.args.whole * 2 ≤ c.args.n
half_le c = le_trans (mul-le-mul_left c.args.whole c.requires.0) (omega (arith, rest c))

pub overflow_add-result : goal.overflow_add-result
overflow_add-result c = omega (arith, half_le (goal.at.overflow_add-result c).Start)

pub returns-then-unit-twice : goal.returns-then-unit-twice
returns-then-unit-twice c = sym (closest_up _ _ _ c.requires.2 c.if-unit-twice.true)

pub overflow_add-result-2 : goal.overflow_add-result-2
overflow_add-result-2 c = omega (arith, half_le (goal.at.overflow_add-result-2 c).Start)

pub returns : goal.returns
returns c = sym (closest_tie _ _ _ c.requires.2 (omega arith))
