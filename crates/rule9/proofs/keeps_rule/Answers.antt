-- `keeps_rule`: the rule in the order of the tests. The clips that it walks are in the table, since their count fits (`fits_words`). Assumes nothing.
use mathlib.Core.Path.{sym, ◌∙◌}
use Rattle.tables.specs.Layout.{clip_words}
use Rattle.tables.proofs.Records.{fits_words}
use Rattle.rule9.proofs.Runs.{rule_in_order, fails, passes}
use Rattle.rule9.proofs.keeps_rule.Goals as goal

pub returns-then-not-clips_fit : goal.returns-then-not-clips_fit
returns-then-not-clips_fit c = rw rule_in_order (fails _ c.clips_fit.ensures c.if-not-clips_fit.true)

pub returns-then-not-tags_fit : goal.returns-then-not-tags_fit
returns-then-not-tags_fit c = rw rule_in_order (passes c.clips_fit.ensures c.if-not-clips_fit.false (fails _ c.tags_fit.ensures c.if-not-tags_fit.true))

pub returns-then-not-head_fits : goal.returns-then-not-head_fits
returns-then-not-head_fits c = rw rule_in_order (passes c.clips_fit.ensures c.if-not-clips_fit.false (passes c.tags_fit.ensures c.if-not-tags_fit.false (fails _ c.head_fits.ensures c.if-not-head_fits.true)))

pub clips_keep-requires : goal.clips_keep-requires
clips_keep-requires c = fits_words clip_words _ _ (sym c.clips_fit.ensures ∙ c.if-not-clips_fit.false)

pub returns-then-not-clips_keep : goal.returns-then-not-clips_keep
returns-then-not-clips_keep c = rw rule_in_order (passes c.clips_fit.ensures c.if-not-clips_fit.false (passes c.tags_fit.ensures c.if-not-tags_fit.false (passes c.head_fits.ensures c.if-not-head_fits.false (fails _ c.clips_keep.ensures c.if-not-clips_keep.true))))

pub returns : goal.returns
returns c = rw rule_in_order (passes c.clips_fit.ensures c.if-not-clips_fit.false (passes c.tags_fit.ensures c.if-not-tags_fit.false (passes c.head_fits.ensures c.if-not-head_fits.false (passes c.clips_keep.ensures c.if-not-clips_keep.false c.tags_keep.ensures))))
