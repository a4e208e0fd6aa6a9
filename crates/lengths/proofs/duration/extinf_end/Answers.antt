-- `lengths::duration::extinf_end` meets its contract: where the digits end tells how many they are (`Ends`), and the rest is as in `duration_title_tag`.
-- Assumes nothing.
use mathlib.Core.Path.{sym, ap}
use mathlib.Core.Bool.{Bool}
use mathlib.Core.Option.{some}
use borrow.Author.Tests.{lt-ltb, le-ltb}
use Rattle.text.specs.Nom.{span_or}
use Rattle.lengths.specs.Duration.{counted, float, duration_title_tag}
use Rattle.lengths.proofs.Ends.{Ended, float_ended}
use Rattle.lengths.proofs.duration.extinf_end.Goals as goal
use Rattle.lengths.proofs.duration.extinf_end.Goals.{After-fraction_end-end}

pub returns-then-point-at : goal.returns-then-point-at
unfolding duration_title_tag float counted
returns-then-point-at c = rw (← c.digits_end-point.ensures, le-ltb _ _ c.if-point-at.true)

-- the length, from its digits on
length : (c : After-fraction_end-end) → (let a = c.args in Ended a.text.now a.at c.digits_end-point.result c.fraction_end-end.result)
length c = float_ended _ _ _ _ (sym c.digits_end-point.ensures) c.if-point-at.false (sym c.fraction_end-end.ensures)

pub overflow_sub-too_many-2 : goal.overflow_sub-too_many-2
overflow_sub-too_many-2 c = (length (goal.at.overflow_sub-too_many-2 c).After-fraction_end-end).from

pub returns-then-text-title_end : goal.returns-then-text-title_end
unfolding duration_title_tag
returns-then-text-title_end c = rw ((length (goal.at.returns-then-text-title_end c).After-fraction_end-end).is, ← c.after_tag-title.ensures, ← c.words_until-title_end.ensures, le-ltb _ _ c.if-text-title_end.true)

pub returns : goal.returns
unfolding duration_title_tag
returns c =
    let l = length (goal.at.returns c).After-fraction_end-end in
    rw (l.is, ← c.after_tag-title.ensures, ← c.words_until-title_end.ensures, lt-ltb _ _ c.if-text-title_end.false, ← c.after_tag.ensures)
    (ap (λ (b : Bool). some (b, c.after_tag.result)) (l.long (span_or c.after_tag-title.result c.words_until-title_end.result)))
