-- `util::offset_val`: what `number` ensures behind the `@`; each way out names the outcome that led there. Assumes nothing.
use native.Mathlib.Omega.{arith}
use mathlib.Core.Path.{◌≡◌, sym, ◌∙◌, ap}
use mathlib.Core.Bool.{true}
use Rattle.text.specs.Nom.{bytes, tagged}
use Rattle.text.specs.Util.{number}
use Rattle.text.proofs.Laws.{tagged_within}
use Rattle.leaves.specs.Answers.{parsed_of}
use Rattle.leaves.proofs.util.offset_val.Goals as goal
use Rattle.leaves.proofs.util.offset_val.Goals.{Else-not-starts_with}

pub returns-then-not-starts_with : goal.returns-then-not-starts_with
returns-then-not-starts_with c = rw (sym c.starts_with.ensures ∙ c.if-not-starts_with.true)

-- the `@` is there
at_sign : (c : Else-not-starts_with) → (let a = c.args in tagged (bytes "@") a.text.now a.at ≡ true)
at_sign c = sym c.starts_with.ensures ∙ c.if-not-starts_with.false

pub overflow_add-at : goal.overflow_add-at
overflow_add-at c = omega (arith, tagged_within _ _ _ (omega arith) (at_sign (goal.at.overflow_add-at c).Else-not-starts_with))

pub returns-in-Value : goal.returns-in-Value
unfolding number
returns-in-Value c = rw (at_sign (goal.at.returns-in-Value c).Else-not-starts_with, sym c.number.ensures ∙ ap parsed_of c.in-Value.is)

pub returns-in-TooLarge : goal.returns-in-TooLarge
unfolding number
returns-in-TooLarge c = rw (at_sign (goal.at.returns-in-TooLarge c).Else-not-starts_with, sym c.number.ensures ∙ ap parsed_of c.in-TooLarge.is)

pub returns-in-NoDigits : goal.returns-in-NoDigits
unfolding number
returns-in-NoDigits c = rw (at_sign (goal.at.returns-in-NoDigits c).Else-not-starts_with, sym c.number.ensures ∙ ap parsed_of c.in-NoDigits.is)
