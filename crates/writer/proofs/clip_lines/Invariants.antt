use Prim.Native.Nat.{◌-◌, ◌≤◌}
use lib.ListN.{length}
use Rattle.playlist.specs.Inside.Texts.{clips_text}
use Rattle.put.proofs.Putting.{Left}
use Rattle.writer.proofs.clip_lines.Given as goal

abbrev pub invariant-loop-k : goal.invariant-loop-k
invariant-loop-k l = (l.k ≤ l.clip_count) × ((l.to ≤ length l.out) × Left l.initial.out l.at (clips_text l.text l.tags l.tag_count l.clips 0 l.clip_count) l.out l.to (clips_text l.text l.tags l.tag_count l.clips l.k (l.clip_count - l.k)))
