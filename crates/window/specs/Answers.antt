-- What each answer of the code says, in the words of the rules. Assumes nothing.
use Rattle.std.specs.Prelude.{Result, ⊤, Option as Perhaps, None, Some}
use Rattle.tables.specs.declared.Refusal as refusalᵈ
use Rattle.tables.specs.Refusal.{Answer}
use Rattle.tables.specs.Answers.{answer}
use Rattle.window.specs.declared.Range as rangeᵈ
use Rattle.window.specs.Window.{Window, none, range}

abbrev pub range_of : Perhaps rangeᵈ.Range → Window
range_of None = none
range_of (Some r) = range r.start r.end

abbrev pub answer_of : Result (Perhaps rangeᵈ.Range) refusalᵈ.Refusal → Answer Window
answer_of = answer range_of

-- a call may go on: nothing is given yet
abbrev pub front_of : Result ⊤ refusalᵈ.Refusal → Answer ⊤
front_of = answer (λ u. u)
