-- `fraction_size`: what is left has the digits of the fraction, and so many places. The places fall. Rests on `Trimming`. Assumes nothing.
use borrow.Author.Rules.{rules}
use native.Mathlib.Omega.{arith}
use Prim.Native.Nat.{◌-◌, ◌/◌, ◌<◌}
use mathlib.Core.Path.{sym, ap}
use lib.ListN.{length}
use Rattle.digits.proofs.Length.{fraction_whole}
use Rattle.digits.proofs.Loops.{Trimming, trim_more, trim_end}
use Rattle.digits.proofs.fraction_size.Goals as goal
use Rattle.digits.proofs.fraction_size.Goals.{In-loop-left}

pub returns-then-f-eq0 : goal.returns-then-f-eq0
returns-then-f-eq0 c =
    record {
      size = sym (ap length (fraction_whole c.args.f (search rules)));
      most = search rules;
    }

pub loop-left-init : goal.loop-left-init
loop-left-init c = let e = c.without_threes-places.ensures in record { same = e.same; some = e.places.0; below = e.places.1; most = e.places.2 }

turn : (c : In-loop-left) → (0 < c.loop-left.size) × Trimming c.args.f (c.loop-left.size - 1) (c.loop-left.left / 10)
turn c = trim_more _ _ _ c.loop-left.invariant (search rules)

pub overflow_sub-size : goal.overflow_sub-size
overflow_sub-size c = (turn (goal.at.overflow_sub-size c).In-loop-left).0

pub loop-left-smaller : goal.loop-left-smaller
loop-left-smaller c = omega (arith, (turn (goal.at.loop-left-smaller c).In-loop-left).0)

pub loop-left-preserved : goal.loop-left-preserved
loop-left-preserved c = (turn (goal.at.loop-left-preserved c).In-loop-left).1

pub overflow_add-result : goal.overflow_add-result
overflow_add-result c = omega (arith, c.loop-left.invariant.most)

pub returns : goal.returns
returns c =
    record {
      size = trim_end _ _ _ c.loop-left.invariant (search rules) (search rules);
      most = omega (arith, c.loop-left.invariant.most);
    }
