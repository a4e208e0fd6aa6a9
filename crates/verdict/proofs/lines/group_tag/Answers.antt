-- `lines::group_tag`: the text, then the run behind it (`undashed_here`, `undashed_not`, `row_not`). Assumes nothing.
use mathlib.Core.Path.{◌≡◌, sym, ◌∙◌}
use mathlib.Core.Bool.{true}
use native.Mathlib.Omega.{arith}
use Rattle.text.specs.Nom.{tagged}
use Rattle.text.proofs.Laws.{tagged_within}
use Rattle.verdict.specs.Verdict.{literal, media_name}
use Rattle.verdict.specs.Inside.Letters.{or_row}
use Rattle.verdict.proofs.Rows.{row_not, undashed_not, undashed_here}
use Rattle.verdict.proofs.lines.group_tag.Goals as goal
use Rattle.verdict.proofs.lines.group_tag.Goals.{Then-starts_with}

-- the text is there
there : (c : Then-starts_with) → let a = c.args in tagged (literal media_name) a.text.now a.at ≡ true
there c = sym c.starts_with.ensures ∙ c.if-starts_with.true

pub overflow_add-after : goal.overflow_add-after
overflow_add-after c = omega (arith, tagged_within _ _ _ (omega arith) (there (goal.at.overflow_add-after c).Then-starts_with))

pub returns-then-after-dash : goal.returns-then-after-dash
unfolding or_row
returns-then-after-dash c = sym (undashed_here _ _ _ _ _ (there (goal.at.returns-then-after-dash c).Then-starts_with) c.find-dash.ensures c.if-after-dash.true)

pub returns-then-starts_with : goal.returns-then-starts_with
unfolding or_row
returns-then-starts_with c = sym (undashed_not _ _ _ _ _ (there (goal.at.returns-then-starts_with c).Then-starts_with) c.find-dash.ensures c.if-after-dash.false)

pub returns : goal.returns
unfolding or_row
returns c = sym (row_not _ _ media_name (sym c.starts_with.ensures ∙ c.if-starts_with.false))
