use Rattle.std.proofs.Common.{◌≡◌, Bool, ℕ, ◌^◌, ◌<◌, ◌-◌, length}
use Rattle.text.specs.Nom.{run_end}
use Rattle.words.specs.Inside.Word.{Unmarked}
use Rattle.words.proofs.unmarked_end.Given as goal

abbrev pub invariant-loop-i : goal.invariant-loop-i
invariant-loop-i g l =
    (p : ℕ → Bool) → ((word found : ℕ) → word < 2 ^ 64 → goal.F-post g l.fn.marks word found → Unmarked p word found) → run_end p l.text l.at ≡ run_end p l.text l.i

abbrev pub decreases-loop-i : goal.decreases-loop-i
decreases-loop-i g l = length l.text - l.i
