use Prim.Native.Nat.{◌-◌}
use Rattle.chains.specs.Inside.Kept.{Leads}
use lib.ListN.{length}
use Rattle.chains.proofs.chain.advance.Given as goal

abbrev pub invariant-loop-place : goal.invariant-loop-place
invariant-loop-place l = Leads l.text l.from l.place

abbrev pub decreases-loop-place : goal.decreases-loop-place
decreases-loop-place l = length l.text - l.place
