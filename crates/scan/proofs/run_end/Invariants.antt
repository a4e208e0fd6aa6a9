use Rattle.std.proofs.Common.{◌≡◌, ◌<◌, ℕ, Bool}
use Rattle.text.specs.Nom.{run_end}
use Rattle.scan.proofs.run_end.Given as goal

abbrev pub invariant-loop-i : goal.invariant-loop-i
invariant-loop-i g l = (p : ℕ → Bool) → ((b : ℕ) (r : Bool) → b < 256 → goal.F-post g l.fn.passes b r → r ≡ p b) → run_end p l.text l.at ≡ run_end p l.text l.i
