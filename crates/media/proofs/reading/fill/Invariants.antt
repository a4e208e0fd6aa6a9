use mathlib.Core.Path.{◌≡◌}
use Prim.Native.Nat.{◌-◌}
use lib.ListN.{length}
use Rattle.chains.specs.Inside.Kept.{RemembersMaps}
use Rattle.tags.specs.Tags.{step}
use Rattle.assembly.specs.Assembly.{State}
use Rattle.media.specs.Inside.Passes.{held_of, state_seen}
use Rattle.media.proofs.Filling.{Filling}
use Rattle.media.proofs.reading.fill.Given as goal

abbrev pub invariant-loop-next : goal.invariant-loop-next
invariant-loop-next l = (a : State) × Filling step l.text l.initial.clips l.initial.tags l.kept l.clips l.tags a l.s.counts.at × (state_seen l.s ≡ held_of a) × (length l.memory ≡ 30) × RemembersMaps l.text l.memory

abbrev pub decreases-loop-next : goal.decreases-loop-next
decreases-loop-next l = length l.text - l.s.counts.at
