use Prim.Native.Nat.{◌-◌}
use lib.ListN.{length}
use mathlib.Core.Path.{◌≡◌}
use Rattle.chains.specs.Inside.Kept.{RemembersMaps}
use Rattle.tags.specs.Tags.{step}
use Rattle.assembly.specs.Assembly.{State, head_of, counts_of}
use Rattle.assembly.specs.Answers.{head_seen}
use Rattle.media.specs.Inside.Passes.{counts_seen}
use Rattle.media.proofs.Passes.{CountsOn}
use Rattle.media.proofs.reading.count.Given as goal

abbrev pub invariant-loop-r : goal.invariant-loop-r
invariant-loop-r l = (s : State) × CountsOn step l.text l.c.at s × (head_seen l.head ≡ head_of s) × (counts_seen l.c ≡ counts_of s) × (length l.memory ≡ 30) × RemembersMaps l.text l.memory

abbrev pub decreases-loop-r : goal.decreases-loop-r
decreases-loop-r l = length l.text - l.c.at
