-- `clips_keep`: `Passed` holds before each clip, and each way out is one of its laws. The measure is the clips left. Assumes nothing.
use mathlib.Core.Path.{sym, ◌∙◌}
use Rattle.rule9.proofs.Runs.{passed_none, passed_clip, broken_clip, broken_start, broken_run, passed_end}
use Rattle.rule9.proofs.clips_keep.Goals as goal

pub loop-k-init : goal.loop-k-init
loop-k-init c = passed_none

pub returns-then-not-clip_keeps : goal.returns-then-not-clip_keeps
returns-then-not-clip_keeps c = sym (broken_clip c.loop-k.invariant c.loop-k-test.true (sym c.clip_keeps.ensures ∙ c.if-not-clip_keeps.true))

pub returns-then-start-first : goal.returns-then-start-first
returns-then-start-first c = sym (broken_start c.loop-k.invariant c.loop-k-test.true c.held_word-start.ensures c.if-start-first.true)

pub returns-then-left-count : goal.returns-then-left-count
returns-then-left-count c = sym (broken_run c.loop-k.invariant c.loop-k-test.true c.held_word-count.ensures c.if-left-count.true)

pub loop-k-preserved : goal.loop-k-preserved
loop-k-preserved c =
    let keeps = sym c.clip_keeps.ensures ∙ c.if-not-clip_keeps.false in
    passed_clip c.loop-k.invariant c.loop-k-test.true keeps c.held_word-start.ensures c.if-start-first.false c.held_word-count.ensures c.if-left-count.false

pub returns : goal.returns
returns c = passed_end c.loop-k.invariant c.loop-k-test.false
