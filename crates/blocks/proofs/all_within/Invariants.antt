use Rattle.std.proofs.Common.{◌≡◌, ◌&&◌, leb, take}
use Rattle.std.specs.List.{list_all}
use Rattle.blocks.proofs.all_within.Given as goal

abbrev pub invariant-loop-x : goal.invariant-loop-x
invariant-loop-x l = l.within ≡ list_all (λ x. leb l.lo x && leb x l.hi) (take l.x-index l.block)
