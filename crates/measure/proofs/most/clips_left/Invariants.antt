use Rattle.measure.proofs.Bounds.{Leaving}
use Rattle.measure.proofs.most.clips_left.Given as goal

abbrev pub invariant-loop-k : goal.invariant-loop-k
invariant-loop-k l = Leaving l.clips l.tags l.clip_count l.room l.left l.k
