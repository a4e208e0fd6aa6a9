use Rattle.std.proofs.Common.{◌≡◌, true, Bool, ℕ, List, ◌+◌, ◌*◌}
use Rattle.std.specs.List.{list_all}
use Rattle.std.specs.Fn.{FnReturnsAt}
use Rattle.text.specs.Nom.{run_end}
use Rattle.blocks.proofs.passed_end.Given as goal

abbrev pub invariant-loop-k : goal.invariant-loop-k
invariant-loop-k g l =
    (p : ℕ → Bool) → ((block : List ℕ) → FnReturnsAt g.F.Fn l.fn.passes block true → list_all p block ≡ true) → run_end p l.text l.at ≡ run_end p l.text (l.at + g.row.SIZE * l.k)
