use Prim.Native.Nat.{◌-◌, ◌<◌, ◌^◌}
use Rattle.leaves.proofs.Number.{Counted}
use Rattle.leaves.proofs.util.number.Given as goal

abbrev pub invariant-loop-i : goal.invariant-loop-i
invariant-loop-i l = Counted l.text l.at l.i l.v × (l.v < 10 ^ (l.i - l.at))
