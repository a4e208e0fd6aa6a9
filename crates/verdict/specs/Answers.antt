-- What each answer of the code says, in the words of the rules. Assumes nothing.
use Rattle.std.specs.Prelude.{ℕ, Bool, Result, Option as Perhaps, None, Some, ⊤}
use Rattle.std.proofs.Math.Option.{Option}
use Rattle.text.specs.declared.Why as whyᵈ
use Rattle.text.specs.Nom.{Res, or_none}
use Rattle.text.specs.Answers.{res_of}
use Rattle.tables.specs.declared.Refused as refusedᵈ
use Rattle.tables.specs.Refusal.{Answer}
use Rattle.tables.specs.Answers.{answer_at}
use Rattle.verdict.specs.declared.lines.Verdict as verdictᵈ
use Rattle.verdict.specs.declared.lines.Verdict.TheVariants as verdictᵛ
use Rattle.verdict.specs.Verdict.{Says, nothing, decides, Verdict, master, media}

-- a tag's kind, and the place after it
abbrev pub kind_res : Result (Bool × ℕ) whyᵈ.Why → Res Bool
kind_res = res_of (λ k. k)

-- and as opt(..) has it, which drops the reason
abbrev pub opt_kind : ℕ → Result (Bool × ℕ) whyᵈ.Why → Res (Option Bool)
opt_kind at r = or_none (kind_res r) at

abbrev pub says_of : Perhaps (Bool × ℕ) → Says
says_of None = nothing
says_of (Some d) = decides d.0 d.1

abbrev pub line_res : Result (Perhaps (Bool × ℕ) × ℕ) whyᵈ.Why → Res Says
line_res = res_of says_of

abbrev pub verdict_seen : verdictᵈ.Verdict → Verdict
verdict_seen (verdictᵛ.Master hash) = master hash
verdict_seen verdictᵛ.Media = media

abbrev pub admission : Result ⊤ refusedᵈ.Refused → Answer (Unit {0})
admission = answer_at (λ _. tt)

abbrev pub master_answer : Result Bool refusedᵈ.Refused → Answer Bool
master_answer = answer_at (λ m. m)
