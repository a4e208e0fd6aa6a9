-- Laws of `many0`: where the rule fails it stops, where the rule takes something it goes on from there. Assumes nothing.
use Prim.Native.Nat.{ℕ, zero, suc, ◌-◌, ◌≤◌, ◌<◌}
use mathlib.Core.Path.{◌≡◌, refl, sym, ◌∙◌, ap}
use mathlib.Core.List.{List, [], ◌∷◌}
use native.Mathlib.Omega.{arith}
use native.Mathlib.Nat.{le_refl}
use lib.ListN.{length}
use Rattle.text.specs.Nom.{Res, fail, ok, Parser}
use Rattle.text.specs.Many.{Many, many, items, stop, push, many0, many_turns}

module _ {A : Type 0} where
  pub items_push : (a : A) (m : Many A) → items (push a m) ≡ a ∷ items m
  items_push a (many xs n) = refl

  pub stop_push : (a : A) (m : Many A) → stop (push a m) ≡ stop m
  stop_push a (many xs n) = refl

-- a rule that takes something each time comes nearer to the text's end
abbrev pub Falls : {A : Type 0} → Parser A → List ℕ → Type 0
Falls {A} p text = (at n : ℕ) (a : A) → p text at ≡ ok a n → length text - n < length text - at

module _ {A : Type 0} (p : Parser A) (text : List ℕ) (falls : Falls p text) where
  turns_stop : (f at : ℕ) (why : _) → p text at ≡ fail why → many_turns p text f at ≡ many [] at
  unfolding many_turns
  turns_stop zero at why e = refl
  turns_stop (suc f) at why e = rw e

  turns_ok : (f at n : ℕ) (a : A) → p text at ≡ ok a n → many_turns p text (suc f) at ≡ push a (many_turns p text f n)
  unfolding many_turns
  turns_ok f at n a e = rw e

  no_turns : (f at : ℕ) → length text - at ≤ 0 → many_turns p text f at ≡ many [] at
  no_turns f at h = go (p text at) refl
    where
      go : (r : Res A) → p text at ≡ r → many_turns p text f at ≡ many [] at
      go (fail why) e = turns_stop f at why e
      go (ok a n) e = absurd (let z = falls at n a e in omega arith)

  -- more turns than bytes are left change nothing
  turns_more : (f g at : ℕ) → length text - at ≤ f → length text - at ≤ g → many_turns p text f at ≡ many_turns p text g at
  turns_more zero g at h k = no_turns zero at h ∙ sym (no_turns g at h)
  turns_more (suc f) zero at h k = no_turns (suc f) at k ∙ sym (no_turns zero at k)
  turns_more (suc f) (suc g) at h k = go (p text at) refl (λ n l m. turns_more f g n l m)
    where
      go : (r : Res A) → p text at ≡ r → ((n : ℕ) → length text - n ≤ f → length text - n ≤ g → many_turns p text f n ≡ many_turns p text g n) → many_turns p text (suc f) at ≡ many_turns p text (suc g) at
      go (fail why) e ih = turns_stop (suc f) at why e ∙ sym (turns_stop (suc g) at why e)
      go (ok a n) e ih = let z = falls at n a e in turns_ok f at n a e ∙ ap (push a) (ih n (omega arith) (omega arith)) ∙ sym (turns_ok g at n a e)

  pub many_stop : (at : ℕ) (why : _) → p text at ≡ fail why → many0 p text at ≡ many [] at
  unfolding many0
  many_stop at why e = turns_stop (length text - at) at why e

  pub many_step : (at n : ℕ) (a : A) → p text at ≡ ok a n → many0 p text at ≡ push a (many0 p text n)
  unfolding many0
  many_step at n a e = first (length text - at) refl
    where
      first : (f : ℕ) → length text - at ≡ f → many_turns p text (length text - at) at ≡ push a (many_turns p text (length text - n) n)
      first zero q = absurd (let z = falls at n a e in omega arith)
      first (suc f) q =
          let z = falls at n a e in
          ap (λ (t : ℕ). many_turns p text t at) q ∙ turns_ok f at n a e ∙ ap (push a) (turns_more f (length text - n) n (omega arith) (le_refl (length text - n)))

  -- what is left, done from the next place
  pub stop_step : (at n : ℕ) (a : A) → p text at ≡ ok a n → stop (many0 p text at) ≡ stop (many0 p text n)
  stop_step at n a e = ap stop (many_step at n a e) ∙ stop_push a (many0 p text n)

  pub items_step : (at n : ℕ) (a : A) → p text at ≡ ok a n → items (many0 p text at) ≡ a ∷ items (many0 p text n)
  items_step at n a e = ap items (many_step at n a e) ∙ items_push a (many0 p text n)
