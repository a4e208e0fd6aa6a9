use Prim.Native.Nat.{◌+◌, ◌-◌}
use lib.ListN.{length}
use Rattle.digits.specs.Digits.{fraction_by}
use Rattle.numerals.proofs.Fraction.{Fraction}
use Rattle.numerals.proofs.fraction_at.Given as goal

abbrev pub invariant-loop-left : goal.invariant-loop-left
invariant-loop-left l = Fraction l.initial.out (l.at + 1) l.f l.out l.to l.left

abbrev pub decreases-loop-left : goal.decreases-loop-left
decreases-loop-left l = l.at + 1 + length (fraction_by 9 l.f) - l.to
