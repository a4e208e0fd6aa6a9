use Prim.Native.Nat.{◌+◌}
use mathlib.Core.Path.{◌≡◌}
use mathlib.Core.Bool.{true}
use Rattle.text.proofs.Stretches.{All}
use Rattle.verdict.proofs.Passed.{Quiet}
use Rattle.verdict.proofs.quiet.block_quiet.Given as goal

abbrev pub invariant-loop-k : goal.invariant-loop-k
invariant-loop-k l = l.quiet ≡ true → All (Quiet l.text) l.at (l.at + l.k)
