-- `clips_left`: clip after clip. Rests on `Leaving`. Assumes nothing.
use Rattle.measure.proofs.Bounds.{leaving_more, leaving_end}
use Rattle.measure.proofs.most.clips_left.Goals as goal

pub loop-k-preserved : goal.loop-k-preserved
loop-k-preserved c = leaving_more c.loop-k.invariant c.loop-k-test.true c.in_ok-left.ensures

pub returns : goal.returns
returns c = leaving_end c.loop-k.invariant c.loop-k-test.false
