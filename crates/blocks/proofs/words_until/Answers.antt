-- `blocks::words_until`: nothing is there, or the first byte ends the run. Assumes nothing.
use Rattle.std.proofs.Common.{sym, ◌∙◌, ap, not, arith}
use Rattle.text.specs.Nom.{is_none_of}
use Rattle.text.proofs.Laws.{run_out, run_stop}
use Rattle.blocks.proofs.words_until.Goals as goal

pub returns-then-text-at : goal.returns-then-text-at
returns-then-text-at g c = sym (run_out _ _ _ c.if-text-at.true)

pub returns-then-is_one_of : goal.returns-then-is_one_of
returns-then-is_one_of g c = sym (run_stop (is_none_of c.args.set.now) _ _ (omega arith) (ap not (sym c.is_one_of.ensures ∙ c.if-is_one_of.true)))
