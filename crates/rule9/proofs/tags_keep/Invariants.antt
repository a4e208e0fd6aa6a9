use Prim.Native.Nat.{◌-◌}
use mathlib.Core.Path.{◌≡◌}
use mathlib.Core.Bool.{true}
use Rattle.tables.specs.Table.{every}
use Rattle.rule9.specs.Rule9.{tag_keeps}
use Rattle.rule9.proofs.tags_keep.Given as goal

abbrev pub invariant-loop-k : goal.invariant-loop-k
invariant-loop-k l = every (tag_keeps l.text l.tags) l.k ≡ true

abbrev pub decreases-loop-k : goal.decreases-loop-k
decreases-loop-k l = l.tag_count - l.k
