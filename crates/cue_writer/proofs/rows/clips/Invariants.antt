use Prim.Native.Nat.{◌-◌, ◌≤◌}
use Rattle.starts.specs.Answers.{cursor_of}
use Rattle.put.proofs.Putting.{Left}
use Rattle.cue_writer.specs.Inside.Pass.{pass_bytes}
use Rattle.cue_writer.proofs.rows.clips.Given as goal

abbrev pub invariant-loop-k : goal.invariant-loop-k
invariant-loop-k l = (l._k ≤ l.clips) × Left l.initial.out l.at (pass_bytes l.words (cursor_of l.initial.starts) l.clips) l.out l.to (pass_bytes l.words (cursor_of l.starts) (l.clips - l._k))
