-- Names that stand one after the other in one text, with their sizes beside: one name after the other. Assumes nothing.
use Prim.Native.Nat.{ℕ, zero, suc, ◌+◌, ◌-◌, ◌≤◌, ◌<◌}
use mathlib.Core.Path.{◌≡◌, refl, sym, ◌∙◌, ap}
use mathlib.Core.Bool.{true, false}
use mathlib.Core.List.{List, [], ◌∷◌}
use native.Mathlib.Omega.{arith}
use native.Mathlib.Numerals.{add-one}
use lib.ListN.{length, get_or, take, drop, length-take, drop_of_length-le, length-drop}
use lib.Seq.{drop-drop, drop-cons}
use Rattle.text.specs.Nom.{Span}
use Rattle.text.specs.Util.{spells}
use Rattle.attributes.specs.Pairs.{words, named}

-- as many bytes as there are
as_many : (n : ℕ) (s : List ℕ) → (take (length (take n s)) s ≡ take n s) × (drop (length (take n s)) s ≡ drop n s)
as_many zero s = (refl, refl)
as_many (suc n) [] = (refl, refl)
as_many (suc n) (x ∷ s) = let h = as_many n s in (ap (λ (r : List ℕ). x ∷ r) h.0, h.1)

module _ (names : List ℕ) (start size end : ℕ) (q : end ≡ start + length (take size (drop start names))) where
  -- a name that starts within the names ends within them
  pub word_ends : start ≤ length names → (start ≤ end) × (end ≤ length names)
  word_ends h = let l = length-take size (drop start names) in (omega arith, omega (arith, l, length-drop start names))

  pub words_next : (sizes : List ℕ) (n : ℕ) → n < length sizes → size ≡ get_or sizes n 0
      → words (drop start names) (drop n sizes) ≡ take (end - start) (drop start names) ∷ words (drop end names) (drop (n + 1) sizes)
  unfolding words
  words_next sizes n h g =
      let s = drop start names in
      let same = as_many size s in
      let z : end - start ≡ length (take size s) = omega arith in
      let behind : drop size s ≡ drop end names = sym same.1 ∙ drop-drop (length (take size s)) start names ∙ ap (λ (k : ℕ). drop k names) (sym q) in
      rw (z, same.0, ← behind, add-one n, drop-cons sizes n 0 h, ← g)

pub words_out : (s sizes : List ℕ) (n : ℕ) → length sizes ≤ n → words s (drop n sizes) ≡ []
unfolding words
words_out s sizes n h = rw (drop_of_length-le sizes h)

-- ---- whether a part of the text is one of them
module _ (text : List ℕ) (part : Span) (ws : List (List ℕ)) where
  pub named_out : ws ≡ [] → named text part ws ≡ false
  unfolding named
  named_out q = rw q

  module _ (w : List ℕ) (rest : List (List ℕ)) (q : ws ≡ w ∷ rest) where
    pub named_here : spells text part w ≡ true → named text part ws ≡ true
    unfolding named
    named_here e = rw (q, e)

    pub named_on : spells text part w ≡ false → named text part ws ≡ named text part rest
    unfolding named
    named_on e = rw (q, e)
