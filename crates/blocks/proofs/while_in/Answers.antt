-- `blocks::while_in`: a byte that is not in the set ends the run at once. Assumes nothing.
use Rattle.std.proofs.Common.{sym, ◌∙◌}
use Rattle.text.specs.Nom.{is_one_of}
use Rattle.blocks.proofs.Blocks.{run_none}
use Rattle.blocks.proofs.while_in.Goals as goal

pub returns-then-not-is_in : goal.returns-then-not-is_in
returns-then-not-is_in g c = sym (run_none (is_one_of c.args.set.now) _ _ _ c.byte_at.ensures (sym c.is_in.ensures ∙ c.if-not-is_in.true))
