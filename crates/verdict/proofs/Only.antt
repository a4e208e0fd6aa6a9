-- An answer is determined: no second one meets a contract (`text`, `Only`). Assumes nothing.
use mathlib.Core.Bool.{Bool}
use mathlib.Core.Path.{◌≡◌, refl}
use Rattle.text.proofs.Only.{Only, only_by}
use Rattle.std.specs.Prelude.{Result, ⊤}
use Rattle.tables.specs.declared.Refused as refusedᵈ
use Rattle.tables.specs.Refusal.{Answer}
use Rattle.tables.proofs.Refusals.{answer_at_only}
use Rattle.verdict.specs.declared.lines.Verdict as verdictᵈ
use Rattle.verdict.specs.declared.lines.Verdict.TheVariants as verdictᵛ
use Rattle.verdict.specs.Verdict.{Verdict, master, media}
use Rattle.verdict.specs.Answers.{verdict_seen, admission, master_answer}

-- `verdict_of`, `lines::verdict_from`
abbrev verdict_back : Verdict → verdictᵈ.Verdict
verdict_back (master hash) = verdictᵛ.Master hash
verdict_back media = verdictᵛ.Media

verdict_back_lem : (v : verdictᵈ.Verdict) → verdict_back (verdict_seen v) ≡ v
verdict_back_lem (verdictᵛ.Master hash) = refl
verdict_back_lem verdictᵛ.Media = refl

pub verdict_only : Only verdict_seen
verdict_only = only_by verdict_seen verdict_back verdict_back_lem

-- `admit`
abbrev passed_back : Unit {0} → ⊤
passed_back u = tt

pub admission_only : (x : Answer (Unit {0})) (a b : Result ⊤ refusedᵈ.Refused) → admission a ≡ x → admission b ≡ x → a ≡ b
admission_only = answer_at_only (λ (u : ⊤). tt) passed_back (λ u. refl)

-- `is_master_playlist`
pub master_only : (x : Answer Bool) (a b : Result Bool refusedᵈ.Refused) → master_answer a ≡ x → master_answer b ≡ x → a ≡ b
master_only = answer_at_only (λ (m : Bool). m) (λ m. m) (λ m. refl)
