-- `version_tag`: what `starts_with` and `number` ensure; a number that is too large is 0 here. Assumes nothing.
use native.Mathlib.Omega.{arith}
use Prim.Native.Nat.{◌-◌, ◌^◌}
use Rattle.text.specs.Util.{number_or_zero}
use Rattle.leaves.specs.Answers.{parsed_of}
use Rattle.text.proofs.Laws.{tagged_below}
use mathlib.Core.Path.{sym, ◌∙◌, ap}
use Rattle.head_tags.proofs.version_tag.Goals as goal

pub overflow_add-at : goal.overflow_add-at
overflow_add-at c = omega (arith, tagged_below _ _ _ (2 ^ 64 - 1) (omega arith) (omega arith) (sym c.starts_with.ensures ∙ c.if-starts_with.true))

pub returns-in-Value : goal.returns-in-Value
unfolding number_or_zero
returns-in-Value c = rw (sym c.starts_with.ensures ∙ c.if-starts_with.true, sym c.number.ensures ∙ ap parsed_of c.in-Value.is)

pub returns-in-TooLarge : goal.returns-in-TooLarge
unfolding number_or_zero
returns-in-TooLarge c = rw (sym c.starts_with.ensures ∙ c.if-starts_with.true, sym c.number.ensures ∙ ap parsed_of c.in-TooLarge.is)

pub returns-in-NoDigits : goal.returns-in-NoDigits
unfolding number_or_zero
returns-in-NoDigits c = rw (sym c.starts_with.ensures ∙ c.if-starts_with.true, sym c.number.ensures ∙ ap parsed_of c.in-NoDigits.is)

pub returns : goal.returns
returns c = rw (sym c.starts_with.ensures ∙ c.if-starts_with.false)
