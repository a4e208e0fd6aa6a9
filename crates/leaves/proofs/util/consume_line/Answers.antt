-- `util::consume_line`: the line's end, and what `opt(line_ending)` takes there (`Line`). Assumes nothing.
use native.Mathlib.Omega.{arith}
use mathlib.Core.Path.{sym, ◌∙◌}
use Rattle.text.proofs.Laws.{tagged_within}
use Rattle.text.specs.Nom.{span}
use Rattle.text.proofs.Line.{ending_two, ending_one}
use Rattle.text.specs.Util.{consume_line}
use Rattle.leaves.proofs.util.consume_line.Goals as goal

pub overflow_add-result : goal.overflow_add-result
overflow_add-result c = omega (arith, tagged_within _ _ _ (omega arith) (sym c.starts_with-then-starts_with.ensures ∙ c.if-starts_with-2.true))

pub returns-then-starts_with-2 : goal.returns-then-starts_with-2
unfolding consume_line
returns-then-starts_with-2 c = rw (← c.line_end-end.ensures, sym c.starts_with.ensures ∙ c.if-starts_with.true, sym c.starts_with-then-starts_with.ensures ∙ c.if-starts_with-2.true, ending_two _ _ (sym c.starts_with-then-starts_with.ensures ∙ c.if-starts_with-2.true))

pub returns-then-starts_with : goal.returns-then-starts_with
unfolding consume_line
returns-then-starts_with c = rw (← c.line_end-end.ensures, sym c.starts_with.ensures ∙ c.if-starts_with.true, sym c.starts_with-then-starts_with.ensures ∙ c.if-starts_with-2.false)

pub returns : goal.returns
unfolding consume_line
returns c = let no-cr = sym c.starts_with.ensures ∙ c.if-starts_with.false in rw (← c.line_end-end.ensures, no-cr, ending_one _ _ (span c.args.at c.line_end-end.result) no-cr, c.after_tag.ensures)
