-- `keeps_rule`: the count fits, and every clip so far keeps the rule. Rests on the laws of `every`. Assumes nothing.
use mathlib.Core.Path.{sym, ◌∙◌}
use Rattle.tables.proofs.Every.{every_none, every_step, every_fails, every_fewer}
use Rattle.window.proofs.Laws.{keeps_short, keeps_each}
use Rattle.window.proofs.keeps_rule.Goals as goal

pub returns-then-not-clips_fit : goal.returns-then-not-clips_fit
returns-then-not-clips_fit c = sym (keeps_short _ _ _ (sym c.clips_fit.ensures ∙ c.if-not-clips_fit.true))

pub loop-k-init : goal.loop-k-init
loop-k-init c = (sym c.clips_fit.ensures ∙ c.if-not-clips_fit.false, every_none _)

pub returns-then-not-clip_keeps : goal.returns-then-not-clip_keeps
returns-then-not-clip_keeps c =
    let l = c.loop-k in
    let e = every_fails _ l.k _ c.loop-k-test.true (sym c.clip_keeps.ensures ∙ c.if-not-clip_keeps.true) in
    sym (keeps_each _ _ _ l.invariant.0 ∙ e)

pub loop-k-preserved : goal.loop-k-preserved
loop-k-preserved c =
    let l = c.loop-k in
    (l.invariant.0, every_step _ l.k l.invariant.1 (sym c.clip_keeps.ensures ∙ c.if-not-clip_keeps.false))

pub returns : goal.returns
returns c =
    let l = c.loop-k in
    sym (keeps_each _ _ _ l.invariant.0 ∙ every_fewer _ _ l.k c.loop-k-test.false l.invariant.1)
