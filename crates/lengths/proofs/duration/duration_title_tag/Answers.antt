-- `lengths::duration::duration_title_tag` meets its contract, by those of its parts, in the rule's order. Assumes nothing.
use mathlib.Core.Path.{◌≡◌, sym, ◌∙◌, ap}
use borrow.Author.Tests.{lt-ltb, le-ltb}
use Rattle.text.specs.Nom.{ok}
use Rattle.text.proofs.Tried.{handed_on}
use Rattle.lengths.specs.Duration.{float, duration_title_tag}
use Rattle.lengths.specs.Answers.{length_seen, extinf_res}
use Rattle.lengths.proofs.duration.duration_title_tag.Goals as goal
use Rattle.lengths.proofs.duration.duration_title_tag.Goals.{In_ok-duration}

-- the length is there
length : (c : In_ok-duration) → (let a = c.args in float a.text.now a.at ≡ ok (length_seen c.in_ok-duration.duration) c.in_ok-duration.end)
length c = sym c.in_ok-duration.ensures

pub returns-then-text-title_end : goal.returns-then-text-title_end
unfolding duration_title_tag
returns-then-text-title_end c = rw (length (goal.at.returns-then-text-title_end c).In_ok-duration, ← c.after_tag-title.ensures, ← c.words_until-title_end.ensures, le-ltb _ _ c.if-text-title_end.true)

pub returns : goal.returns
unfolding duration_title_tag
returns c =
    rw (
      length (goal.at.returns c).In_ok-duration,
      ← c.after_tag-title.ensures,
      ← c.words_until-title_end.ensures,
      lt-ltb _ _ c.if-text-title_end.false,
      ← c.part-title.ensures,
      ← c.after_tag-after.ensures,
    )

pub returns-in_err-duration : goal.returns-in_err-duration
unfolding duration_title_tag
returns-in_err-duration c = ap extinf_res (handed_on _ _ c.from_residual.ensures.1) ∙ rw (sym c.in_err-duration.ensures)
