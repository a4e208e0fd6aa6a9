-- A fixed text of a name and a byte behind it, before a name and that byte. Assumes nothing.
use Prim.Native.Nat.{ℕ}
use mathlib.Core.Path.{◌≡◌, refl, sym, ◌∙◌, ap}
use mathlib.Core.Bool.{Bool, true, false, false≢true}
use mathlib.Core.List.{List, [], ◌∷◌, ◌++◌}
use borrow.Author.Tests.{eq-eqb, ne_eqb}
use Rattle.text.specs.Nom.{begins}
use Rattle.text.proofs.Laws.{and_left, and_right}
use Rattle.text.specs.Spans.{same_all, same_bytes}
use Rattle.roundtrip.proofs.Alike.{every}

-- a word with a byte behind it that neither it nor the name has is there only where it is the name
pub begins_named : (p : ℕ → Bool) (c : ℕ) → p c ≡ false → (t name s : List ℕ) → every p t ≡ true → every p name ≡ true → begins (t ++ (c ∷ [])) (name ++ (c ∷ s)) ≡ same_bytes name t
unfolding begins same_all
begins_named p c e [] [] s h k = rw (eq-eqb c c refl)
begins_named p c e [] (x ∷ name) s h k = rw (ne_eqb x c (λ q. false≢true (sym e ∙ ap p (sym q) ∙ and_left (p x) (every p name) k)))
begins_named p c e (y ∷ t) [] s h k = rw (ne_eqb c y (λ q. false≢true (sym e ∙ ap p q ∙ and_left (p y) (every p t) h)))
begins_named p c e (y ∷ t) (x ∷ name) s h k = rw (begins_named p c e t name s (and_right (p y) (every p t) h) (and_right (p x) (every p name) k))
