use Prim.Native.Nat.{◌≤◌}
use mathlib.Core.Path.{◌≡◌}
use mathlib.Core.Bool.{true}
use Rattle.tables.specs.Table.{every}
use Rattle.cue_writer.proofs.Weighed.{uri_holds}
use Rattle.cue_writer.proofs.measure.fields_hold.Given as goal

abbrev pub invariant-loop-k : goal.invariant-loop-k
invariant-loop-k l = (l.k ≤ l.clips) × (every (uri_holds l.words) l.k ≡ true)
