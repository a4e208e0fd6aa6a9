use Rattle.digits.proofs.Loops.{Trimming}
use Rattle.digits.proofs.fraction_size.Given as goal

abbrev pub invariant-loop-left : goal.invariant-loop-left
invariant-loop-left l = Trimming l.f l.size l.left

abbrev pub decreases-loop-left : goal.decreases-loop-left
decreases-loop-left l = l.size
