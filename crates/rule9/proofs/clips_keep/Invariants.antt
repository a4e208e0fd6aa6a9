use Prim.Native.Nat.{◌-◌}
use Rattle.rule9.proofs.Runs.{Passed}
use Rattle.rule9.proofs.clips_keep.Given as goal

abbrev pub invariant-loop-k : goal.invariant-loop-k
invariant-loop-k l = Passed l.text l.clips l.clip_count l.tag_count l.first l.k

abbrev pub decreases-loop-k : goal.decreases-loop-k
decreases-loop-k l = l.clip_count - l.k
