use Prim.Native.Nat.{◌≤◌}
use mathlib.Core.Path.{◌≡◌}
use Rattle.clock.specs.Clock.{sum_lengths}
use Rattle.playing.proofs.clip_within.Given as goal

abbrev pub invariant-loop-clip : goal.invariant-loop-clip
invariant-loop-clip l = (l.before ≡ sum_lengths l.words l.clip) × (l.before ≤ l.rest)
