use Prim.Native.Nat.{◌-◌}
use mathlib.Core.Path.{◌≡◌}
use mathlib.Core.Bool.{true}
use Rattle.tables.specs.Table.{every}
use Rattle.cue_file.specs.Format.{version1}
use Rattle.cue_file.specs.Read.{start_in, start_keeps}
use Rattle.cue_reader.proofs.starts_keep.Given as goal

abbrev pub invariant-loop-k : goal.invariant-loop-k
invariant-loop-k l = (every (start_keeps version1 l.file) l.k ≡ true) × ((l.k ≡ 0 → ⊥) → l.before ≡ start_in version1 l.file (l.k - 1))
