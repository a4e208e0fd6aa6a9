-- `is_master_playlist`: what `admit` ensures, and then `verdict_of`. Assumes nothing.
use mathlib.Core.Path.{sym, ◌∙◌, ap, ◌≡◌}
use Rattle.verdict.specs.Calls.{admitted, is_master_playlist}
use Rattle.tables.specs.Refusal.{given}
use Rattle.verdict.specs.Answers.{master_answer, verdict_seen}
use Rattle.text.proofs.Tried.{handed_on}
use Rattle.verdict.proofs.is_master_playlist.Goals as goal
use Rattle.verdict.proofs.is_master_playlist.Goals.{After-verdict_of}

-- the text is admitted
passed : (c : After-verdict_of) → admitted c.args.text.now ≡ given tt
passed c = sym c.in_ok-admit.ensures

pub returns-in_err-admit : goal.returns-in_err-admit
unfolding is_master_playlist
returns-in_err-admit c = ap master_answer (handed_on _ _ c.from_residual.ensures.1) ∙ rw (sym c.in_err-admit.ensures)

pub returns-in-Master : goal.returns-in-Master
unfolding is_master_playlist
returns-in-Master c = rw (passed (goal.at.returns-in-Master c).After-verdict_of, sym c.verdict_of.ensures ∙ ap verdict_seen c.in-Master.is)

pub returns-in-Media : goal.returns-in-Media
unfolding is_master_playlist
returns-in-Media c = rw (passed (goal.at.returns-in-Media c).After-verdict_of, sym c.verdict_of.ensures ∙ ap verdict_seen c.in-Media.is)
