-- `Windows::new`: what is weighed first refuses as the rule does, or the cursor stands before the first clip. Assumes nothing.
use Rattle.std.proofs.Common.{rules}
use mathlib.Core.Path.{sym, ap, ◌∙◌}
use Rattle.tables.proofs.Refusals.{given_refuses}
use Rattle.window.specs.Answers.{front_of}
use Rattle.window.proofs.Laws.{clips_front}
use Rattle.windows.specs.Windows.{windows}
use Rattle.windows.proofs.Windows.new.Goals as goal

pub returns-in_err-over_clips : goal.returns-in_err-over_clips
unfolding windows
returns-in_err-over_clips c = search rules ∙ sym ((clips_front _ _ _).refuses _ _ (given_refuses _ _) _ 0 (sym c.over_clips.ensures ∙ ap front_of c.in_err-over_clips.was))

pub returns : goal.returns
unfolding windows
returns c =
    let g = ((clips_front _ _ _).passed _ tt (sym c.over_clips.ensures ∙ ap front_of c.in_ok-over_clips.was)).0 in
    sym ((clips_front _ _ _).on _ g)
