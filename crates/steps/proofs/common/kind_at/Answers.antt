-- `common::kind_at`: the tests of the code are those of the rule. Assumes nothing.
use mathlib.Core.Path.{sym, ◌∙◌}
use Rattle.steps.proofs.MostLines.{kind_uri, kind_hash}
use Rattle.steps.proofs.common.kind_at.Goals as goal

pub returns-then-text-at-ne35 : goal.returns-then-text-at-ne35
returns-then-text-at-ne35 c = kind_uri c.args.text.now _ c.if-text-at.false c.if-text-at-ne35.true

pub returns-then-starts_with : goal.returns-then-starts_with
returns-then-starts_with c = kind_hash _ _ c.if-text-at.false c.if-text-at-ne35.false (sym c.starts_with.ensures ∙ c.if-starts_with.true)

pub returns : goal.returns
returns c = kind_hash _ _ c.if-text-at.false c.if-text-at-ne35.false (sym c.starts_with.ensures ∙ c.if-starts_with.false)
