-- What the code's answer says, in the words of the rules. Assumes nothing.
use Rattle.std.specs.Prelude.{ℕ, Result}
use Rattle.tables.specs.declared.Refusal as refusalᵈ
use Rattle.tables.specs.Refusal.{Answer}
use Rattle.tables.specs.Answers.{answer}

abbrev pub write_answer : Result ℕ refusalᵈ.Refusal → Answer ℕ
write_answer = answer (λ n. n)
