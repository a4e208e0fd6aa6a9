-- The last number below n that passes. By induction on n. Assumes nothing.
use mathlib.Core.Path.{◌≡◌, refl, sym, ap, ◌∙◌}
use mathlib.Core.Bool.{Bool, true, false, cond, false≢true}
use mathlib.Core.Logic.{⊎_elim}
use Prim.Native.Nat.{ℕ, zero, suc, ◌<◌}
use native.Mathlib.Nat.{eq-or-lt_of_le, le_of_suc-le-suc}
use native.Mathlib.Omega.{arith}
use Rattle.playing.specs.Playing.{last_below}

module _ (p : ℕ → Bool) where
  -- one that passes, and none later does
  pub last_is : (k n : ℕ) → k < n → p k ≡ true → ((j : ℕ) → k < j → j < n → p j ≡ false) → last_below p n ≡ k
  unfolding last_below
  last_is k zero h e f = omega arith
  last_is k (suc n) h e f = go (λ l. last_is k n l e (λ j a b. f j a (omega arith))) (p n) refl
    where
      go : (k < n → last_below p n ≡ k) → (b : Bool) → p n ≡ b → cond b n (last_below p n) ≡ k
      go rec true q = ⊎_elim sym (λ l. absurd (false≢true (sym (f n l (omega arith)) ∙ q))) (eq-or-lt_of_le (le_of_suc-le-suc h))
      go rec false q = ⊎_elim (λ i. absurd (false≢true (sym q ∙ (sym (ap p i) ∙ e)))) rec (eq-or-lt_of_le (le_of_suc-le-suc h))

  -- where one passes, the last is below n and passes
  pub last_passes : (k n : ℕ) → k < n → p k ≡ true → (last_below p n < n) × (p (last_below p n) ≡ true)
  unfolding last_below
  last_passes k zero h e = absurd (omega arith)
  last_passes k (suc n) h e = go (λ l. last_passes k n l e) (p n) refl
    where
      go : (k < n → (last_below p n < n) × (p (last_below p n) ≡ true)) → (b : Bool) → p n ≡ b → (cond b n (last_below p n) < suc n) × (p (cond b n (last_below p n)) ≡ true)
      go rec true q = (omega arith, q)
      go rec false q =
          ⊎_elim
          (λ i. absurd (false≢true (sym q ∙ (sym (ap p i) ∙ e))))
          (λ l. let r = rec l in (omega (arith, r.0), r.1))
          (eq-or-lt_of_le (le_of_suc-le-suc h))

  -- and none later does
  pub none_later : (j n : ℕ) → last_below p n < j → j < n → p j ≡ false
  unfolding last_below
  none_later j zero l h = absurd (omega arith)
  none_later j (suc n) l h = go (none_later j n) (p n) refl l
    where
      go : (last_below p n < j → j < n → p j ≡ false) → (b : Bool) → p n ≡ b → cond b n (last_below p n) < j → p j ≡ false
      go rec true q m = absurd (omega arith)
      go rec false q m = ⊎_elim (λ i. ap p i ∙ q) (rec m) (eq-or-lt_of_le (le_of_suc-le-suc h))
