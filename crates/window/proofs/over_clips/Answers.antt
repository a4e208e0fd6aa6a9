-- `over_clips`: each way out is a row of 02's order. Assumes nothing.
use mathlib.Core.Path.{sym, ◌∙◌}
use Rattle.window.proofs.Laws.{clips_front, clips_1, clips_9}
use Rattle.window.proofs.over_clips.Goals as goal

pub returns-then-text-gt-TEXT_LIMIT : goal.returns-then-text-gt-TEXT_LIMIT
returns-then-text-gt-TEXT_LIMIT c = sym (clips_1 _ _ _ _ c.if-text-gt-TEXT_LIMIT.true)

pub returns-then-not-keeps_rule : goal.returns-then-not-keeps_rule
returns-then-not-keeps_rule c = sym (clips_9 _ _ _ _ c.if-text-gt-TEXT_LIMIT.false (sym c.keeps_rule.ensures ∙ c.if-not-keeps_rule.true))

pub returns : goal.returns
returns c = sym ((clips_front _ _ _).on _ (record { short = c.if-text-gt-TEXT_LIMIT.false; keeps = sym c.keeps_rule.ensures ∙ c.if-not-keeps_rule.false }))
