-- The number in two bytes of a file and in four, high byte first, is what `from_be_bytes` makes of them. Assumes nothing.
use Rattle.std.proofs.Common.{w16, w32}
use Rattle.std.specs.Int.{from_be_bytes}
use mathlib.Core.Path.{◌≡◌, ap}
use mathlib.Core.List.{List, [], ◌∷◌}
use Prim.Native.Nat.{ℕ, ◌+◌}
use native.Mathlib.Omega.{arith}
use lib.ListN.{get_or}
use Rattle.cue_file.specs.Format.{value_at}

module _ (file : List ℕ) (at : ℕ) where
  first : get_or file at 0 ≡ get_or file (at + 0) 0
  first = ap (λ (k : ℕ). get_or file k 0) (omega arith)

  pub two_bytes : from_be_bytes w16 (get_or file at 0 ∷ get_or file (at + 1) 0 ∷ []) ≡ value_at 2 file at
  unfolding value_at
  two_bytes = rw first (omega arith)

  pub four_bytes : from_be_bytes w32 (get_or file at 0 ∷ get_or file (at + 1) 0 ∷ get_or file (at + 2) 0 ∷ get_or file (at + 3) 0 ∷ []) ≡ value_at 4 file at
  unfolding value_at
  four_bytes = rw first (omega arith)
