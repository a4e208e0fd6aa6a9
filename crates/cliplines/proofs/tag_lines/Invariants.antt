use Prim.Native.Nat.{◌-◌, ◌≤◌}
use Rattle.playlist.specs.Inside.Texts.{tags_text, run_text}
use Rattle.put.proofs.Putting.{Left}
use Rattle.cliplines.proofs.tag_lines.Given as goal

abbrev pub invariant-loop-k : goal.invariant-loop-k
invariant-loop-k l = (l.k ≤ l.end) × Left l.initial.out l.at (run_text l.text l.tags l.tag_count l.first l.count) l.out l.to (tags_text l.text l.tags l.k (l.end - l.k))
