use Rattle.std.proofs.Common.{◌≡◌, ℕ, ◌<◌, get_or, false}
use lib.Dec.{eqb}
use Rattle.text.proofs.Stretches.{All}
use Rattle.words.specs.Inside.Word.{bytes_of}
use Rattle.words.proofs.marks_of_any.Given as goal

abbrev pub invariant-loop-b : goal.invariant-loop-b
invariant-loop-b g l =
    (k : ℕ) → k < 8 → get_or (bytes_of 8 l.found) k 0 ≡ 0 → All (λ j. eqb (get_or l.set j 0) (get_or (bytes_of 8 l.word) k 0) ≡ false) 0 l.b-index
