use Rattle.std.proofs.Common.{◌≡◌, take}
use Rattle.std.specs.List.{list_all}
use Rattle.text.specs.Nom.{is_one_of}
use Rattle.blocks.proofs.all_in.Given as goal

abbrev pub invariant-loop-x : goal.invariant-loop-x
invariant-loop-x g l = l.all ≡ list_all (is_one_of l.set) (take l.x-index l.block)
