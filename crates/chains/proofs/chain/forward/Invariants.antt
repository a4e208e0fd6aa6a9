use Prim.Native.Nat.{◌-◌}
use mathlib.Core.Path.{◌≡◌}
use mathlib.Core.Bool.{true}
use Rattle.text.specs.Answers.{span_of}
use Rattle.attributes.specs.Answers.{attr_of}
use Rattle.chains.specs.Inside.Kept.{chain, present, Forward}
use lib.ListN.{length}
use Rattle.chains.proofs.chain.forward.Given as goal

abbrev pub invariant-loop-next : goal.invariant-loop-next
invariant-loop-next l = (present (attr_of l.value) ≡ true) × Forward l.text (chain (span_of l.initial.name) (attr_of l.initial.value) l.initial.next l.end) (chain (span_of l.name) (attr_of l.value) l.next l.end)

abbrev pub decreases-loop-next : goal.decreases-loop-next
decreases-loop-next l = length l.text - l.next
