-- `number_size`: the digits counted, and those of what is left, are all digits. What is left falls. Rests on `Counting`. Assumes nothing.
use borrow.Author.Rules.{rules}
use native.Mathlib.Omega.{arith}
use Rattle.digits.proofs.Loops.{count_none, count_more, count_end}
use Rattle.digits.proofs.number_size.Goals as goal

pub loop-left-init : goal.loop-left-init
loop-left-init c = count_none c.args.n c.ranges.n.fits

pub overflow_add-size : goal.overflow_add-size
overflow_add-size c = omega (arith, c.loop-left.invariant)

pub loop-left-preserved : goal.loop-left-preserved
loop-left-preserved c = count_more c.loop-left.invariant (search rules)

pub returns : goal.returns
returns c =
    let e = count_end c.loop-left.invariant (search rules) in record {
      size = e;
      most = omega (arith, e, c.loop-left.invariant.most);
    }
