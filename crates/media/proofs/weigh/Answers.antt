-- `weigh` meets its contract: each exit by what the calls on the way ensure, in the order of the refusals. Assumes nothing.
use mathlib.Core.Path.{◌≡◌, sym, ◌∙◌, ap}
use Rattle.tables.specs.Refusal.{given}
use Rattle.verdict.specs.Calls.{admitted}
use Rattle.verdict.specs.Answers.{admission, verdict_seen}
use Rattle.text.proofs.Tried.{handed_on}
use Rattle.media.proofs.weigh.Goals as goal
use Rattle.media.proofs.weigh.Goals.{In_ok-admit}

text-admitted : (c : In_ok-admit) → admitted c.args.text.now ≡ given tt
text-admitted c = sym c.in_ok-admit.ensures

pub returns-in_err-admit : goal.returns-in_err-admit
returns-in_err-admit c = ap admission (handed_on _ _ c.from_residual.ensures.1) ∙ rw (sym c.in_err-admit.ensures)

pub returns-in-Master : goal.returns-in-Master
returns-in-Master c = rw (text-admitted (goal.at.returns-in-Master c).In_ok-admit, sym c.verdict_of.ensures ∙ ap verdict_seen c.in-Master.is)

pub returns-in-Media : goal.returns-in-Media
returns-in-Media c = rw (text-admitted (goal.at.returns-in-Media c).In_ok-admit, sym c.verdict_of.ensures ∙ ap verdict_seen c.in-Media.is)
