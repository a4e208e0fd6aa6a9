use Rattle.std.proofs.Common.{◌≡◌}
use Rattle.text.specs.Nom.{is_none_of, run_end}
use Rattle.blocks.proofs.until.Given as goal

abbrev pub invariant-loop-i : goal.invariant-loop-i
invariant-loop-i g l = run_end (is_none_of l.set) l.text l.at ≡ run_end (is_none_of l.set) l.text l.i
