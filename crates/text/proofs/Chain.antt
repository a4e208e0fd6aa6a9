-- A way through a chain of alternatives, with no search: past one that fails, up to the one that is there; and how a chain may be cut. Assumes nothing.
use Prim.Native.Nat.{ℕ}
use mathlib.Core.Path.{◌≡◌, refl}
use mathlib.Core.Bool.{Bool, true, false}
use Rattle.text.specs.Why.{Why}
use Rattle.text.specs.Nom.{Res, fail, ok, or_else, bind, when}

module _ {A : Type 0} where
  pub alt_skip : (r q z : Res A) (why : Why) → r ≡ fail why → z ≡ q → z ≡ or_else r q
  alt_skip r q z why e h = rw e h

  pub alt_here : (r q : Res A) (a : A) (n : ℕ) → r ≡ ok a n → ok a n ≡ or_else r q
  alt_here r q a n e = rw e

  pub or_assoc : (r p q : Res A) → or_else r (or_else p q) ≡ or_else (or_else r p) q
  or_assoc (fail why) p q = refl
  or_assoc (ok a n) p q = refl

  -- behind one that fails for one reason alone, a failure for that reason adds nothing
  pub or_same : (b : Bool) (why : Why) (a : A) (n : ℕ) → let r = bind (when b why (ok (tt {0}) n)) (λ _ m. ok a m) in or_else r (fail why) ≡ r
  or_same true why a n = refl
  or_same false why a n = refl
