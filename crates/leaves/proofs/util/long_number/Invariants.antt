use Rattle.leaves.proofs.Number.{Counted}
use Rattle.leaves.proofs.util.long_number.Given as goal

abbrev pub invariant-loop-i : goal.invariant-loop-i
invariant-loop-i l = Counted l.text l.at l.i l.v
