use Rattle.std.proofs.Common.{◌≡◌, true, not, eqb, get_or}
use Rattle.std.specs.List.{list_all}
use Rattle.text.proofs.Stretches.{All}
use Rattle.blocks.proofs.none_of.Given as goal

abbrev pub invariant-loop-b : goal.invariant-loop-b
invariant-loop-b g l = l.none ≡ true → All (λ j. list_all (λ x. not (eqb (get_or l.set j 0) x)) l.block ≡ true) 0 l.b-index
