use Prim.Native.Nat.{◌+◌, min}
use mathlib.Core.Path.{◌≡◌}
use mathlib.Core.Bool.{true}
use Rattle.tables.specs.Table.{every, clips_fit}
use Rattle.clock.specs.Clock.{largest_total, sum_lengths}
use Rattle.clock.proofs.Lengths.{length_passes}
use Rattle.clock.proofs.total.Given as goal

abbrev pub invariant-loop-k : goal.invariant-loop-k
invariant-loop-k l = (clips_fit l.words l.clips ≡ true) × (every (length_passes l.words) l.k ≡ true) × (l.sum ≡ min (sum_lengths l.words l.k) (largest_total + 1))
