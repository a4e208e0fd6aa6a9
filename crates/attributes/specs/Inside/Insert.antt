-- What is held of a list, with one pair more. Assumes nothing.
use Rattle.std.specs.Prelude.{ℕ, ◌+◌, ◌*◌, ◌≡◌, refl, cond, List, [], ◌∷◌, leb, length, replicate}
use Rattle.std.proofs.Math.Option.{some}
use Rattle.std.proofs.lemmas.List.Edits.{sets}
use Rattle.text.specs.Nom.{span, bytes, tagged, begins}
use Rattle.text.specs.Util.{spells}
use Rattle.attributes.specs.Pairs.{bare, Pair, pair, words}
use Rattle.attributes.specs.Held.{attr_words, words_of}

-- attribute number n has these words, where there is room for them
unfoldable pub stored : List ℕ → ℕ → List ℕ → List ℕ
stored held n ws = cond (leb (n * attr_words + attr_words) (length held)) (sets held (n * attr_words) ws) held

-- under each name that is the pair's, from number n on
unfoldable pub inserted_from : List ℕ → Pair → ℕ → List (List ℕ) → List ℕ → List ℕ
inserted_from text p n [] held = held
inserted_from text (pair left right) n (w ∷ ws) held =
    inserted_from text (pair left right) (n + 1) ws (cond (spells text left w) (stored held n (words_of (some right))) held)

-- a name that stands twice is held twice
twice : inserted_from (bytes "b=1") (pair (span 0 1) (bare (span 2 3))) 0 (words (bytes "abb") (1 ∷ 1 ∷ 1 ∷ [])) (replicate 9 0) ≡ 0 ∷ 0 ∷ 0 ∷ 1 ∷ 2 ∷ 3 ∷ 1 ∷ 2 ∷ 3 ∷ []
unfolding inserted_from stored words spells tagged begins
twice = refl
