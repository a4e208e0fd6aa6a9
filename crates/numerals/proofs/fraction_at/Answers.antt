-- `fraction_at` meets its contract: nothing, or a point and the digits behind it. The loop's invariant: the digits of what is left, put from here on, are
-- the whole put. The measure is how many places there still are. Assumes nothing.
use native.Mathlib.Nat.{mod-lt}
use native.Mathlib.Omega.{arith}
use mathlib.Core.Path.{ap, sym}
use Prim.Native.Nat.{◌+◌, ◌≤◌}
use lib.Dec.{lit<}
use lib.ListN.{length, length-set}
use Rattle.digits.specs.Digits.{fraction_by}
use Rattle.digits.proofs.Length.{fraction_whole, fraction_point}
use Rattle.put.proofs.Putting.{puts_none, puts_as, puts_then, byte_fits}
use Rattle.numerals.proofs.Fraction.{fraction_begin, fraction_done, front_room, front_on, fraction_turn}
use Rattle.numerals.proofs.fraction_at.Goals as goal
use Rattle.numerals.proofs.fraction_at.Goals.{Else-f-eq0}

pub returns-then-f-eq0 : goal.returns-then-f-eq0
returns-then-f-eq0 c = puts_as (sym (fraction_whole c.args.f c.if-f-eq0.true)) puts_none

-- the point has room, and the digits behind it
longer : (c : Else-f-eq0) → c.args.at + (1 + length (fraction_by 9 c.args.f)) ≤ length c.args.out.now
longer c = omega (arith, ap length (fraction_point c.args.f c.if-f-eq0.false), c.requires.room)

pub bounds-out-at : goal.bounds-out-at
bounds-out-at c = omega (arith, longer (goal.at.bounds-out-at c).Else-f-eq0)

pub overflow_add-to : goal.overflow_add-to
overflow_add-to c = omega (arith, longer (goal.at.overflow_add-to c).Else-f-eq0, c.well_formed.0.0)

pub loop-left-init : goal.loop-left-init
loop-left-init c = fraction_begin _ _ _ c.requires.f_lt_second (omega (arith, longer (goal.at.loop-left-init c).Else-f-eq0, length-set c.args.out.now c.args.at 46))

pub overflow_mul-thousandfold : goal.overflow_mul-thousandfold
overflow_mul-thousandfold c = omega (arith, c.loop-left.invariant.low)

pub three_at-to-requires : goal.three_at-to-requires
three_at-to-requires c =
    let left = c.loop-left-test.true in
    let inv = c.loop-left.invariant in
    record { three_bound = omega (arith, inv.low); behind_lt_second = mod-lt _ (lit< tt); behind_nonzero = omega arith; room = front_room left inv }

pub loop-left-smaller : goal.loop-left-smaller
loop-left-smaller c =
    let n = front_on c.loop-left-test.true c.loop-left.invariant c.three_at-to.ensures in
    omega (arith, n.0, n.1)

pub loop-left-preserved : goal.loop-left-preserved
loop-left-preserved c = fraction_turn c.loop-left-test.true c.loop-left.invariant c.three_at-to.ensures

pub shape_of-out : goal.shape_of-out
shape_of-out c = simp length-set at c.loop-left.invariant.digits.long

pub returns : goal.returns
returns c = puts_as (sym (fraction_point c.args.f c.if-f-eq0.false)) (puts_then (byte_fits (omega (arith, longer (goal.at.returns c).Else-f-eq0))) (fraction_done c.loop-left.invariant c.loop-left-test.false))
