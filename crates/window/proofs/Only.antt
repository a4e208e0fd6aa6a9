-- No second result fits a public call's promise. Rests on `answer_only` of `tables`. Assumes nothing.
use Rattle.std.specs.Prelude.{◌≡◌, refl, Result, ⊤, Option as Perhaps, None, Some}
use Rattle.tables.specs.declared.Refusal as refusalᵈ
use Rattle.tables.specs.Refusal.{Answer}
use Rattle.tables.proofs.Refusals as refusals
use Rattle.window.specs.declared.Range as rangeᵈ
use Rattle.window.specs.Answers.{range_of, answer_of, front_of}
use Rattle.window.specs.Window.{Window, none, range}

-- the way back from a window
pub range_from : Window → Perhaps rangeᵈ.Range
range_from none = None
range_from (range start end) = Some (record { start = start; end = end })

pub range_back : (w : Perhaps rangeᵈ.Range) → range_from (range_of w) ≡ w
unfolding range_from
range_back None = refl
range_back (Some r) = refl

-- `window`, `window_after`
pub answer_only : (x : Answer Window) (a b : Result (Perhaps rangeᵈ.Range) refusalᵈ.Refusal) → answer_of a ≡ x → answer_of b ≡ x → a ≡ b
answer_only = refusals.answer_only range_of range_from range_back

-- `over_clips`
pub front_only : (x : Answer ⊤) (a b : Result ⊤ refusalᵈ.Refusal) → front_of a ≡ x → front_of b ≡ x → a ≡ b
front_only = refusals.answer_only (λ u. u) (λ u. u) (λ u. refl)
