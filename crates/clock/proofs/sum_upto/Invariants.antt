use Prim.Native.Nat.{◌+◌, min}
use mathlib.Core.Path.{◌≡◌}
use Rattle.clock.specs.Clock.{largest_total, sum_lengths}
use Rattle.clock.proofs.sum_upto.Given as goal

abbrev pub invariant-loop-k : goal.invariant-loop-k
invariant-loop-k l = l.sum ≡ min (sum_lengths l.words l.k) (largest_total + 1)
