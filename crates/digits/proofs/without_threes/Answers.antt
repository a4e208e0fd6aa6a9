-- `without_threes`: what is left has the digits of the fraction, and so many places. The places fall. Rests on `Trimming`. Assumes nothing.
use borrow.Author.Rules.{rules}
use native.Mathlib.Omega.{arith}
use Prim.Native.Nat.{◌-◌, ◌/◌, ◌<◌}
use Rattle.digits.proofs.Loops.{Trimming, trim_none, trim_three}
use Rattle.digits.proofs.without_threes.Goals as goal
use Rattle.digits.proofs.without_threes.Goals.{In-loop-left}

pub loop-left-init : goal.loop-left-init
loop-left-init c = trim_none c.args.f c.requires.0 c.requires.1

turn : (c : In-loop-left) → (2 < c.loop-left.size) × Trimming c.args.f (c.loop-left.size - 3) (c.loop-left.left / 1000)
turn c = trim_three _ _ _ c.loop-left.invariant (search rules)

pub overflow_sub-size : goal.overflow_sub-size
overflow_sub-size c = (turn (goal.at.overflow_sub-size c).In-loop-left).0

pub loop-left-smaller : goal.loop-left-smaller
loop-left-smaller c = omega (arith, (turn (goal.at.loop-left-smaller c).In-loop-left).0)

pub loop-left-preserved : goal.loop-left-preserved
loop-left-preserved c = (turn (goal.at.loop-left-preserved c).In-loop-left).1

pub returns : goal.returns
returns c =
    let t = c.loop-left.invariant in record {
      same = t.same;
      places = (t.some, t.below, t.most);
    }
