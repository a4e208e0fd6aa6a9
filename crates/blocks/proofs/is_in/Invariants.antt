use Rattle.std.proofs.Common.{◌≡◌, take}
use Rattle.text.specs.Nom.{is_one_of}
use Rattle.blocks.proofs.is_in.Given as goal

abbrev pub invariant-loop-b : goal.invariant-loop-b
invariant-loop-b g l = l.one ≡ is_one_of (take l.b-index l.set) l.x
