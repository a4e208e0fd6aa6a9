-- `media_sequence_tag`: what `number_after` ensures. Assumes nothing.
use mathlib.Core.Path.{sym, ◌∙◌, ap}
use Rattle.text.proofs.Tried.{handed_on}
use Rattle.head_tags.specs.Inside.Answers.{head_res}
use Rattle.head_tags.proofs.media_sequence_tag.Goals as goal

pub returns : goal.returns
returns c = rw (sym c.in_ok-n.ensures)

pub returns-in_err-n : goal.returns-in_err-n
returns-in_err-n c = ap head_res (handed_on _ _ c.from_residual.ensures.1) ∙ rw (sym c.in_err-n.ensures)
