use Prim.Native.Nat.{◌-◌}
use mathlib.Core.Path.{◌≡◌}
use lib.ListN.{length}
use Rattle.text.specs.Many.{many0, stop}
use Rattle.attributes.specs.Pairs.{words, next_pair}
use Rattle.attributes.proofs.Walk.{held_from}
use Rattle.attributes.proofs.list.last_of_each.Given as goal

abbrev pub invariant-loop-p : goal.invariant-loop-p
invariant-loop-p l =
    (stop (many0 next_pair l.text l.at) ≡ stop (many0 next_pair l.text l.from))
    × (held_from l.text (words l.names l.sizes) l.at l.initial.held ≡ held_from l.text (words l.names l.sizes) l.from l.held)

abbrev pub decreases-loop-p : goal.decreases-loop-p
decreases-loop-p l = length l.text - l.from
