use Rattle.std.proofs.Common.{◌≡◌, not, eqb, take}
use Rattle.std.specs.List.{list_all}
use Rattle.blocks.proofs.lacks.Given as goal

abbrev pub invariant-loop-x : goal.invariant-loop-x
invariant-loop-x l = l.lacks ≡ list_all (λ x. not (eqb l.b x)) (take l.x-index l.block)
