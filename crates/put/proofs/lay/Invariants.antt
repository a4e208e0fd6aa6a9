use Prim.Native.Nat.{◌+◌, ◌≤◌}
use lib.ListN.{length, drop}
use Rattle.put.proofs.Putting.{Left}
use Rattle.put.proofs.lay.Given as goal

abbrev pub invariant-loop-k : goal.invariant-loop-k
invariant-loop-k l = (l.k ≤ length l.from) × Left l.initial.out l.at l.from l.out (l.at + l.k) (drop l.k l.from)
