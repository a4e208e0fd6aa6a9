-- `lines::verdict_from`: the verdict from the start is the verdict from here, as what was passed and the lines before told nothing (`FirstSaid`). The measure is what is left
-- of the text. Assumes nothing.
use mathlib.Core.Path.{refl, sym, ◌∙◌, ap, ◌≡◌}
use Rattle.verdict.specs.Verdict.{is_master_playlist_tag_line, or_later, verdict_from}
use Rattle.text.specs.Nom.{ok}
use Rattle.verdict.specs.Answers.{says_of, line_res}
use Rattle.verdict.proofs.FirstSaid.{verdict_stop, verdict_step, line_falls}
use native.Mathlib.Omega.{arith}
use Rattle.verdict.proofs.lines.verdict_from.Goals as goal
use Rattle.verdict.proofs.lines.verdict_from.Goals.{In-Ok}

-- a line was taken here
taken : (c : In-Ok) → let text = c.args.text.now in
    is_master_playlist_tag_line text c.quiet_end-line.result ≡ ok (says_of c.in-Ok.says) c.in-Ok.after
taken c = sym c.is_master_playlist_tag_line.ensures ∙ ap line_res c.in-Ok.is

-- and what it says decides, or leaves the verdict to the lines after it
from-line : (c : In-Ok) → let text = c.args.text.now in
    verdict_from text c.args.at ≡ or_later (says_of c.in-Ok.says) (verdict_from text c.in-Ok.after)
from-line c = c.loop-says.invariant ∙ c.quiet_end-line.ensures.1 ∙ verdict_step _ _ _ _ (taken c)

pub loop-says-init : goal.loop-says-init
loop-says-init c = refl

pub returns-in_default : goal.returns-in_default
returns-in_default c =
    let fails = sym c.is_master_playlist_tag_line.ensures ∙ ap line_res c.in_default.is in
    sym (c.loop-says.invariant ∙ c.quiet_end-line.ensures.1 ∙ verdict_stop _ _ _ fails)

pub loop-says-smaller : goal.loop-says-smaller
loop-says-smaller c = omega (arith, line_falls _ _ _ _ (taken (goal.at.loop-says-smaller c).In-Ok), c.quiet_end-line.ensures.0)

pub loop-says-preserved : goal.loop-says-preserved
loop-says-preserved c = rw c.in-None.is at (from-line (goal.at.loop-says-preserved c).In-Ok)

pub returns-then-is_master : goal.returns-then-is_master
returns-then-is_master c = sym (rw (c.in-Some.is, c.if-is_master.true) at (from-line (goal.at.returns-then-is_master c).In-Ok))

pub returns-in-Some : goal.returns-in-Some
returns-in-Some c = sym (rw (c.in-Some.is, c.if-is_master.false) at (from-line (goal.at.returns-in-Some c).In-Ok))
