use Prim.Native.Nat.{◌-◌}
use mathlib.Core.Path.{◌≡◌}
use lib.ListN.{length}
use Rattle.attributes.specs.Pairs.{words}
use Rattle.attributes.proofs.Walk.{others}
use Rattle.attributes.proofs.list.has_besides.Given as goal

abbrev pub invariant-loop-p : goal.invariant-loop-p
invariant-loop-p l = others l.text (words l.names l.sizes) l.at ≡ others l.text (words l.names l.sizes) l.from

abbrev pub decreases-loop-p : goal.decreases-loop-p
decreases-loop-p l = length l.text - l.from
