-- `all_windows`: what is weighed first refuses as the rule does, or the table is too short, or all is laid. Assumes nothing.
use Rattle.std.proofs.Common.{rules}
use mathlib.Core.Path.{refl, sym, ap, ◌∙◌}
use Rattle.tables.proofs.Refusals.{given_refuses}
use Rattle.tables.proofs.Laying.{as_refused, as_given}
use Rattle.window.specs.Answers.{front_of}
use Rattle.window.proofs.Laws.{OverClips, clips_front}
use Rattle.windows.specs.Table.{all_windows}
use Rattle.windows.proofs.Laying.{windows_10, windows_given}
use Rattle.windows.proofs.table.all_windows.Goals as goal
use Rattle.windows.proofs.table.all_windows.Goals.{In_ok-over_clips}

-- past the first refusals
passed : (c : In_ok-over_clips) → let a = c.args in OverClips a.text.now a.words.now a.clips
passed c = ((clips_front _ _ _).passed _ tt (sym c.over_clips.ensures ∙ ap front_of c.in_ok-over_clips.was)).0

pub returns-in_err-over_clips : goal.returns-in_err-over_clips
unfolding all_windows
returns-in_err-over_clips c =
    let e = (clips_front _ _ _).refuses _ _ (given_refuses _ _) _ 0 (sym c.over_clips.ensures ∙ ap front_of c.in_err-over_clips.was) in
    as_refused _ _ _ _ _ (search rules) e

pub returns-then-not-windows_fit : goal.returns-then-not-windows_fit
returns-then-not-windows_fit c = as_refused _ _ _ _ _ refl (windows_10 _ _ _ _ (passed (goal.at.returns-then-not-windows_fit c).In_ok-over_clips) (sym c.windows_fit.ensures ∙ c.if-not-windows_fit.true))

pub returns : goal.returns
returns c =
    let e = windows_given _ _ _ _ (passed (goal.at.returns c).In_ok-over_clips) (sym c.windows_fit.ensures ∙ c.if-not-windows_fit.false) in
    as_given _ _ _ _ _ _ refl e c.lay.ensures
