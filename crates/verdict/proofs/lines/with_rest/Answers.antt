-- `lines::with_rest`: what `consume_line` ensures. Assumes nothing.
use mathlib.Core.Path.{sym, ◌∙◌, ap}
use Rattle.text.proofs.Tried.{handed_on}
use Rattle.verdict.specs.Answers.{line_res}
use Rattle.verdict.proofs.lines.with_rest.Goals as goal

pub returns : goal.returns
returns c = rw (sym c.in_ok-after.ensures)

pub returns-in_err-after : goal.returns-in_err-after
returns-in_err-after c = ap line_res (handed_on _ _ c.from_residual.ensures.1) ∙ rw (sym c.in_err-after.ensures)
