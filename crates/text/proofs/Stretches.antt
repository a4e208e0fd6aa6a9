-- Laws of stretches of places: what holds of two that meet holds of both, and what stays the same from place to place is the same at
-- both ends. Assumes nothing.
use mathlib.Core.Path.{◌≡◌, sym, ◌∙◌, ap, subst}
use mathlib.Core.Bool.{Bool, true}
use mathlib.Core.List.{List}
use Prim.Native.Nat.{ℕ, zero, suc, ◌+◌, ◌-◌, ◌≤◌, ◌<◌}
use native.Mathlib.Nat.{le_refl, add-zero}
use native.Mathlib.Decide.{dec_le}
use native.Mathlib.Omega.{arith}
use lib.ListN.{length, get_or}
use Rattle.text.specs.Nom.{run_end}
use Rattle.text.proofs.Laws.{run_step}

-- each place from a on and before b
abbrev pub All : (ℕ → Type 0) → ℕ → ℕ → Type 0
All P a b = (j : ℕ) → a ≤ j → j < b → P j

-- a byte that passes the test
abbrev pub Passes : (ℕ → Bool) → List ℕ → ℕ → Type 0
Passes p text j = p (get_or text j 0) ≡ true

module _ (P : ℕ → Type 0) where
  pub join : (a b d : ℕ) → All P a b → All P b d → All P a d
  join a b d f g j h l = go (dec_le b j)
    where
      go : Dec (b ≤ j) → P j
      go (yes m) = g j m l
      go (no m) = f j h (omega arith)

  pub more : (a b : ℕ) → All P a b → P b → All P a (b + 1)
  more a b f p = join a b (b + 1) f (λ j h l. let e : b ≡ j = omega arith in subst P e p)

module _ {A : Type 0} (f : ℕ → A) where
  same_by : (k a : ℕ) → All (λ j. f j ≡ f (j + 1)) a (a + k) → f a ≡ f (a + k)
  same_by zero a h = ap f (sym (add-zero a))
  same_by (suc k) a h =
      let z : a + 1 + k ≡ a + suc k = omega arith in
      h a (le_refl a) (omega arith) ∙ same_by k (a + 1) (λ j m l. h j (omega arith) (omega arith)) ∙ ap f z

  pub same : (a b : ℕ) → a ≤ b → All (λ j. f j ≡ f (j + 1)) a b → f a ≡ f b
  same a b m h = let z : a + (b - a) ≡ b = omega arith in same_by (b - a) a (λ j n l. h j n (omega arith)) ∙ ap f z

-- a run goes on past bytes that pass its test
pub run_on : (p : ℕ → Bool) (text : List ℕ) (a b : ℕ) → a ≤ b → All (λ j. (j < length text) × Passes p text j) a b → run_end p text a ≡ run_end p text b
run_on p text a b m h = same (run_end p text) a b m (λ j n l. run_step p text j (h j n l).0 (h j n l).1)
