use Prim.Native.Nat.{◌+◌}
use mathlib.Core.Path.{◌≡◌}
use mathlib.Core.Bool.{true}
use Rattle.text.proofs.Stretches.{All}
use Rattle.characters.specs.Inside.Fits.{fits_at}
use Rattle.characters.proofs.block_fits.Given as goal

abbrev pub invariant-loop-k : goal.invariant-loop-k
invariant-loop-k l = l.all ≡ true → All (λ j. fits_at l.text j ≡ true) l.at (l.at + l.k)
