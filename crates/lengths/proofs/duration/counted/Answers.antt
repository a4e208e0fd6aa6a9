-- `lengths::duration::counted` meets its contract, by `number`'s: a rule that takes digits moves on, so the count does not wrap. Assumes nothing.
use mathlib.Core.Path.{◌≡◌, sym, ◌∙◌, ap}
use native.Mathlib.Omega.{arith}
use Rattle.text.specs.Nom.{ok}
use Rattle.text.specs.Util.{fits, large, parsed}
use Rattle.leaves.specs.Answers.{parsed_of}
use Rattle.text.proofs.Takes.{takes_parsed}
use Rattle.lengths.proofs.Kept.{counted_parsed}
use Rattle.lengths.proofs.duration.counted.Goals as goal
use Rattle.lengths.proofs.duration.counted.Goals.{In-TooLarge, In-Value}

-- the number fits
value : (c : In-Value) → (let a = c.args in parsed a.text.now a.at ≡ ok (fits c.in-Value.value) c.in-Value.end)
value c = sym c.number.ensures ∙ ap parsed_of c.in-Value.is

pub overflow_sub-count : goal.overflow_sub-count
overflow_sub-count c = omega (arith, (takes_parsed _ _ _ _ (value (goal.at.overflow_sub-count c).In-Value)).0)

-- it does not
too_large : (c : In-TooLarge) → (let a = c.args in parsed a.text.now a.at ≡ ok large c.in-TooLarge.end)
too_large c = sym c.number.ensures ∙ ap parsed_of c.in-TooLarge.is

pub overflow_sub-count-in-TooLarge : goal.overflow_sub-count-in-TooLarge
overflow_sub-count-in-TooLarge c = omega (arith, (takes_parsed _ _ _ _ (too_large (goal.at.overflow_sub-count-in-TooLarge c).In-TooLarge)).0)

pub returns-in-Value : goal.returns-in-Value
returns-in-Value c = rw (counted_parsed, value (goal.at.returns-in-Value c).In-Value)

pub returns-in-TooLarge : goal.returns-in-TooLarge
returns-in-TooLarge c = rw (counted_parsed, too_large (goal.at.returns-in-TooLarge c).In-TooLarge)

pub returns-in-NoDigits : goal.returns-in-NoDigits
returns-in-NoDigits c = rw (counted_parsed, sym c.number.ensures ∙ ap parsed_of c.in-NoDigits.is)
