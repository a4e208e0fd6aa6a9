-- Sums of lengths, and the clock's rule of a table. Rests on `every`'s laws. Assumes nothing.
use mathlib.Core.Path.{◌≡◌}
use mathlib.Core.Bool.{Bool, true, false, and-false}
use mathlib.Core.List.{List}
use Prim.Native.Nat.{ℕ, ◌+◌, ◌≤◌, ◌<◌}
use native.Mathlib.Nat.{le_refl}
use native.Mathlib.Decide.{le_ind}
use native.Mathlib.Numerals.{add-one}
use native.Mathlib.Omega.{arith}
use lib.Dec.{ltb}
use borrow.Author.Tests.{lt-ltb, le-ltb}
use Rattle.tables.specs.Layout.{length_limit}
use Rattle.tables.specs.Table.{every, clips_fit}
use Rattle.tables.proofs.Every.{every_step, every_fails, every_fewer}
use Rattle.clock.specs.Clock.{length_of, sum_lengths, keeps_rule}

-- one length more
pub sum_step : (t : List ℕ) (k : ℕ) → sum_lengths t (k + 1) ≡ sum_lengths t k + length_of t k
unfolding sum_lengths
sum_step t k = rw add-one

-- a longer sum is no less
pub sum_mono : (t : List ℕ) (i j : ℕ) → i ≤ j → sum_lengths t i ≤ sum_lengths t j
unfolding sum_lengths
sum_mono t i j h = le_ind (λ (m : ℕ). sum_lengths t i ≤ sum_lengths t m) (le_refl (sum_lengths t i)) (λ m k e. omega arith) j h

-- a length in its limit, as `every` tests it
abbrev pub length_passes : List ℕ → ℕ → Bool
length_passes t k = ltb (length_of t k) length_limit

module _ (t : List ℕ) where
  pub length_step : (k : ℕ) → every (length_passes t) k ≡ true → length_of t k < length_limit → every (length_passes t) (k + 1) ≡ true
  length_step k e h = every_step (length_passes t) k e (lt-ltb (length_of t k) length_limit h)

  pub keeps_short : (n : ℕ) → clips_fit t n ≡ false → keeps_rule t n ≡ false
  unfolding keeps_rule
  keeps_short n e = rw e

  pub keeps_long : (k n : ℕ) → k < n → length_limit ≤ length_of t k → keeps_rule t n ≡ false
  unfolding keeps_rule
  keeps_long k n l h = rw (every_fails (length_passes t) k n l (le-ltb (length_of t k) length_limit h)) (and-false (clips_fit t n))

  pub keeps_of : (k n : ℕ) → n ≤ k → clips_fit t n ≡ true → every (length_passes t) k ≡ true → keeps_rule t n ≡ true
  unfolding keeps_rule
  keeps_of k n l f e = rw (f, every_fewer (length_passes t) n k l e)
