-- What a call refuses, without what it gives. Assumes nothing.
use Rattle.std.specs.Prelude.{Result, ⊤}
use Rattle.tables.specs.Refusal.{Answer, refused, given}
use Rattle.tables.specs.declared.Refusal as refusalᵈ
use Rattle.tables.specs.Answers.{answer}

-- of an answer only whether and how it refuses
abbrev pub refusals : {A : Type 0} → Answer A → Answer Unit
refusals (refused ρ place) = refused ρ place
refusals (given a) = given tt

-- what the code says of it
abbrev pub leave_of : Result ⊤ refusalᵈ.Refusal → Answer Unit
leave_of = answer (λ _. tt)
