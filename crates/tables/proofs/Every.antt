-- "Every entry passes", for every rule of a table. A checking loop cites the step and the failing entry; who relies on the rule, each entry.
-- Assumes nothing.
use mathlib.Core.Path.{◌≡◌, refl}
use mathlib.Core.Bool.{Bool, true, false, and-false, and-eq-true_iff}
use Prim.Native.Nat.{ℕ, zero, suc, ◌+◌, ◌≤◌, ◌<◌}
use native.Mathlib.Nat.{le_refl}
use native.Mathlib.Decide.{le_ind}
use native.Mathlib.Numerals.{add-one}
use native.Mathlib.Omega.{arith}
use Rattle.tables.specs.Table.{every}

module _ (p : ℕ → Bool) where
  pub every_none : every p 0 ≡ true
  unfolding every
  every_none = refl

  -- one more entry that passes
  pub every_step : (k : ℕ) → every p k ≡ true → p k ≡ true → every p (k + 1) ≡ true
  unfolding every
  every_step k e h = rw (add-one, e, h)

  -- one entry that fails is enough
  pub every_fails : (k n : ℕ) → k < n → p k ≡ false → every p n ≡ false
  unfolding every
  every_fails k n l h = le_ind (λ (m : ℕ). every p m ≡ false) (rw h (and-false (every p k))) (λ m g e. rw e) n l

  every_last : (n : ℕ) → every p (suc n) ≡ true → (every p n ≡ true) × (p n ≡ true)
  unfolding every
  every_last n e = (and-eq-true_iff (every p n) (p n)).0 e

  -- the rule of n entries holds of fewer
  pub every_fewer : (i n : ℕ) → i ≤ n → every p n ≡ true → every p i ≡ true
  every_fewer i n h = le_ind (λ (m : ℕ). every p m ≡ true → every p i ≡ true) (λ e. e) (λ m g f e. f (every_last m e).0) n h

  -- each entry passes
  pub every_at : (k n : ℕ) → k < n → every p n ≡ true → p k ≡ true
  every_at k n l e = (every_last k (every_fewer (suc k) n l e)).1

  -- and the other way
  pub every_of : (n : ℕ) → ((k : ℕ) → k < n → p k ≡ true) → every p n ≡ true
  unfolding every
  every_of zero h = refl
  every_of (suc n) h = rw (every_of n (λ k l. h k (omega arith)), h n (le_refl (suc n)))
