-- `tags_keep`: every tag so far keeps the rule. The measure is the tags left. Rests on the laws of `every`. Assumes nothing.
use mathlib.Core.Path.{sym, ◌∙◌}
use Rattle.tables.proofs.Every.{every_none, every_step, every_fails, every_fewer}
use Rattle.rule9.proofs.tags_keep.Goals as goal

pub loop-k-init : goal.loop-k-init
loop-k-init c = every_none _

pub returns-then-not-tag_keeps : goal.returns-then-not-tag_keeps
returns-then-not-tag_keeps c = sym (every_fails _ c.loop-k.k _ c.loop-k-test.true (sym c.tag_keeps.ensures ∙ c.if-not-tag_keeps.true))

pub loop-k-preserved : goal.loop-k-preserved
loop-k-preserved c = every_step _ c.loop-k.k c.loop-k.invariant (sym c.tag_keeps.ensures ∙ c.if-not-tag_keeps.false)

pub returns : goal.returns
returns c = sym (every_fewer _ _ c.loop-k.k c.loop-k-test.false c.loop-k.invariant)
