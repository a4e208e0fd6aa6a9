use Prim.Native.Nat.{◌-◌, ◌≤◌}
use Rattle.tables.specs.Table.{listed}
use Rattle.put.proofs.Putting.{Left}
use Rattle.cue_file.specs.Format.{uris}
use Rattle.cue_file.specs.Write.{cue_of, cues_of}
use Rattle.cue_writer.proofs.rows.uris.Given as goal

abbrev pub invariant-loop-k : goal.invariant-loop-k
invariant-loop-k l = (l.k ≤ l.clips) × Left l.initial.out l.at (uris (cues_of l.text l.words l.clips)) l.out l.to (uris (listed (cue_of l.text l.words) l.k (l.clips - l.k)))
