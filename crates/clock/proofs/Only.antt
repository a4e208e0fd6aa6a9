-- No second result fits a public call's promise `answer_of r ≡ answer`. Rests on `tables`' law of any answer.
-- Assumes nothing.
use mathlib.Core.Path.{◌≡◌, refl}
use Prim.Native.Nat.{ℕ}
use Rattle.std.specs.Prelude.{Result}
use Rattle.tables.specs.declared.Refusal as refusalᵈ
use Rattle.tables.specs.Refusal.{Answer}
use Rattle.tables.proofs.Refusals as laws
use Rattle.clock.specs.Answers.{answer_of}

-- `total`, `at_rate`, `in_turn`, `start_ns`, `start_tick`, `clip_ticks`; `tick_at` is an equation by itself
pub answer_only : (x : Answer ℕ) (a b : Result ℕ refusalᵈ.Refusal) → answer_of a ≡ x → answer_of b ≡ x → a ≡ b
answer_only = laws.answer_only (λ n. n) (λ n. n) (λ n. refl)
