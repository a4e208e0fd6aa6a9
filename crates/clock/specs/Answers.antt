-- What each answer of the code says, in the words of the rules. Assumes nothing.
use Rattle.std.specs.Prelude.{ℕ, Result}
use Rattle.tables.specs.declared.Refusal as refusalᵈ
use Rattle.tables.specs.Refusal.{Answer}
use Rattle.tables.specs.Answers.{answer}

abbrev pub answer_of : Result ℕ refusalᵈ.Refusal → Answer ℕ
answer_of = answer (λ n. n)
