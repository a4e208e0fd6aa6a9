-- Spans: what it says that one fits, and that a part which spells a word shows the word's bytes. Assumes nothing.
use Prim.Native.Nat.{ℕ, zero, suc, ◌+◌, ◌-◌, ◌≤◌}
use mathlib.Core.Path.{◌≡◌, refl, ap, ◌∙◌}
use mathlib.Core.Bool.{Bool, true, false, ◌&&◌, and-false}
use mathlib.Core.List.{List, [], ◌∷◌}
use native.Mathlib.Omega.{arith}
use lib.Dec.{leb, eqb, eqb-zero-suc, eqb-suc-zero, eqb-suc-suc}
use lib.ListN.{length, take, drop, length-drop}
use lib.Seq.{take_all}
use borrow.Author.Tests.{leb-true, eqb-true, eqb-false, ne_eqb, eq-eqb}
use Rattle.text.specs.Nom.{span, tagged, begins}
use Rattle.text.specs.Util.{spells}
use Rattle.text.specs.Spans.{span_fits, shown, same_all, same_bytes}
use Rattle.text.proofs.Laws.{and_left, and_right}

pub span_within : (text : List ℕ) (a b : ℕ) → span_fits text a b ≡ true → (a ≤ b) × (b ≤ length text)
span_within text a b e = (leb-true a b (and_left _ _ e), leb-true b (length text) (and_right (leb a b) _ e))

-- ---- a part and a word
-- of the first n bytes of s
begins_taken : (word s : List ℕ) (n : ℕ) → n ≤ length s → (begins word s && eqb (length word) n) ≡ same_bytes (take n s) word
unfolding begins same_all
begins_taken [] s zero h = refl
begins_taken [] [] (suc n) h = absurd (omega arith)
begins_taken [] (x ∷ s) (suc n) h = eqb-zero-suc n
begins_taken (t ∷ ts) s zero h = rw (eqb-suc-zero (length ts)) (and-false (begins (t ∷ ts) s))
begins_taken (t ∷ ts) [] (suc n) h = absurd (omega arith)
begins_taken (t ∷ ts) (x ∷ s) (suc n) h = rw (eqb-suc-suc (length ts) n) (go (eqb x t) (begins_taken ts s n (omega arith)))
  where
    go : (c : Bool) → (begins ts s && eqb (length ts) n) ≡ same_bytes (take n s) ts → ((c && begins ts s) && eqb (length ts) n) ≡ (c && same_bytes (take n s) ts)
    go true ih = ih
    go false ih = refl

-- a part that starts at a ends at b where it is as long
end_by_length : (a b n : ℕ) → a ≤ b → eqb (a + n) b ≡ eqb n (b - a)
end_by_length a b n h = go (eqb n (b - a)) refl
  where
    go : (c : Bool) → eqb n (b - a) ≡ c → eqb (a + n) b ≡ c
    go true e = eq-eqb (a + n) b (omega (arith, eqb-true n (b - a) e))
    go false e = ne_eqb (a + n) b (λ q. eqb-false n (b - a) e (omega arith))

pub spells_shown : (text : List ℕ) (a b : ℕ) → a ≤ b → b ≤ length text → (word : List ℕ) → spells text (span a b) word ≡ same_bytes (shown text (span a b)) word
unfolding spells tagged
spells_shown text a b h l word = rw (end_by_length a b (length word) h) (begins_taken word (drop a text) (b - a) (omega (arith, length-drop a text)))

-- and the whole of a text
pub spells_own : (b word : List ℕ) → spells b (span 0 (length b)) word ≡ same_bytes b word
spells_own b word = spells_shown b 0 (length b) (omega arith) (omega arith) word ∙ ap (λ (s : List ℕ). same_bytes s word) (take_all (length b - 0) b (omega arith))
