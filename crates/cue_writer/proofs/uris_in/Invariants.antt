use Prim.Native.Nat.{◌≤◌}
use mathlib.Core.Path.{◌≡◌}
use mathlib.Core.Bool.{true}
use Rattle.tables.specs.Table.{every}
use Rattle.cue_file.proofs.Kept.{span_passes}
use Rattle.cue_writer.proofs.uris_in.Given as goal

abbrev pub invariant-loop-k : goal.invariant-loop-k
invariant-loop-k l = (l.k ≤ l.clips) × (every (span_passes l.text l.words) l.k ≡ true)
