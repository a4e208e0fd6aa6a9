-- `sum_upto`: the sum so far is the rule's, or stopped just above the largest. Rests on `sum_step`. Assumes nothing.
use borrow.Author.Rules.{rules}
use native.Mathlib.Omega.{arith}
use Rattle.clock.specs.Clock.{sum_lengths}
use Rattle.clock.proofs.Lengths.{sum_step}
use Rattle.clock.proofs.sum_upto.Goals as goal

pub loop-k-init : goal.loop-k-init
unfolding sum_lengths
loop-k-init c = search rules

pub loop-k-preserved : goal.loop-k-preserved
loop-k-preserved c = omega (arith, sum_step c.args.words.now c.loop-k.k)
