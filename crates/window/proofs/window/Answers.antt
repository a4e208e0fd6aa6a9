-- `window`: what is weighed first refuses as the rule does, then 14, then the clip's own window. Assumes nothing.
use Rattle.std.proofs.Common.{rules}
use mathlib.Core.Path.{sym, ap, ◌∙◌}
use Rattle.tables.proofs.Refusals.{given_refuses}
use Rattle.window.specs.Window.{window}
use Rattle.window.specs.Answers.{front_of}
use Rattle.window.proofs.Laws.{OverClips, clips_front, window_14, window_given}
use Rattle.window.proofs.window.Goals as goal
use Rattle.window.proofs.window.Goals.{In_ok-over_clips}

passed : (c : In_ok-over_clips) → let a = c.args in OverClips a.text.now a.words.now a.clips
passed c = ((clips_front _ _ _).passed _ tt (sym c.over_clips.ensures ∙ ap front_of c.in_ok-over_clips.was)).0

pub returns-in_err-over_clips : goal.returns-in_err-over_clips
unfolding window
returns-in_err-over_clips c =
    let e = (clips_front _ _ _).refuses _ _ (given_refuses _ _) _ 0 (sym c.over_clips.ensures ∙ ap front_of c.in_err-over_clips.was) in
    search rules ∙ sym e

pub returns-then-clips-clip : goal.returns-then-clips-clip
returns-then-clips-clip c = sym (window_14 _ _ _ _ (passed (goal.at.returns-then-clips-clip c).In_ok-over_clips) c.if-clips-clip.true)

pub returns : goal.returns
returns c = c.window_of.ensures ∙ sym (window_given _ _ _ _ (passed (goal.at.returns c).In_ok-over_clips) c.if-clips-clip.false)
