-- `util::byte_range_val`: what `number` and `offset_val` ensure; each way out names the outcome that led there. Assumes nothing.
use mathlib.Core.Path.{◌≡◌, sym, ◌∙◌, ap}
use Rattle.text.specs.Nom.{ok}
use Rattle.text.specs.Util.{byte_range_val, number}
use Rattle.leaves.specs.Answers.{parsed_of}
use Rattle.leaves.proofs.util.byte_range_val.Goals as goal
use Rattle.leaves.proofs.util.byte_range_val.Goals.{In-Value}

-- the length was read
read : (c : In-Value) → (let a = c.args in number a.text.now a.at ≡ ok c.in-Value.length c.in-Value.end)
unfolding number
read c = rw (sym c.number.ensures ∙ ap parsed_of c.in-Value.is)

pub returns-in-Value : goal.returns-in-Value
unfolding byte_range_val
returns-in-Value c = rw (read (goal.at.returns-in-Value c).In-Value, ← c.offset_val-placed.ensures)

pub returns-in-TooLarge : goal.returns-in-TooLarge
unfolding byte_range_val number
returns-in-TooLarge c = rw (sym c.number.ensures ∙ ap parsed_of c.in-TooLarge.is)

pub returns-in-NoDigits : goal.returns-in-NoDigits
unfolding byte_range_val number
returns-in-NoDigits c = rw (sym c.number.ensures ∙ ap parsed_of c.in-NoDigits.is)
