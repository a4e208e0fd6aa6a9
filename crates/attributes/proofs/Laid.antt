-- What is held under some names: it is as long as the words that were lent, and each attribute is read back from it. Assumes nothing.
use Prim.Native.Nat.{ℕ, zero, suc, ◌+◌, ◌-◌, ◌*◌, ◌≤◌, ◌<◌}
use mathlib.Core.Path.{◌≡◌, refl, sym, ◌∙◌, ap}
use mathlib.Core.Bool.{Bool, true, false, cond}
use mathlib.Core.List.{List, [], ◌∷◌, ◌++◌, map}
use mathlib.Core.Option.{Option, none, some}
use native.Mathlib.Omega.{arith}
use native.Mathlib.Numerals.{add-one}
use lib.Dec.{leb}
use lib.ListN.{length, get_or, take, set, replicate, length-append, length-replicate, get_or-replicate, replicate-append-replicate, get_or-append}
use lib.Seq.{take-suc-set, sets, length-sets, get_or-append-add}
use borrow.Author.Tests.{leb-true, leb-false, le-leb, lt-leb}
use Rattle.text.specs.Nom.{span}
use Rattle.attributes.specs.Pairs.{QuotedOrUnquoted, bare, in_quotes}
use Rattle.attributes.specs.Held.{attr_words, words_of, attr_from, laid, attr_word, attr_at}
use Rattle.attributes.specs.Inside.Insert.{stored}

-- ---- the words of attribute number n
module _ (held : List ℕ) (n : ℕ) where
  module _ (h : n * attr_words + attr_words ≤ length held) where
    pub stored_there : (ws : List ℕ) → stored held n ws ≡ sets held (n * attr_words) ws
    unfolding stored
    stored_there ws = rw (le-leb (n * attr_words + attr_words) (length held) h)

    pub stored_three : (a b d : ℕ) → stored held n (a ∷ b ∷ d ∷ []) ≡ set (set (set held (n * attr_words) a) (n * attr_words + 1) b) (n * attr_words + 2) d
    stored_three a b d = let two : n * attr_words + 2 ≡ suc (suc (n * attr_words)) = omega arith in rw (add-one (n * attr_words), two) (stored_there (a ∷ b ∷ d ∷ []))

    pub word_there : (i : ℕ) → attr_word held n i ≡ get_or held (n * attr_words + i) 0
    unfolding attr_word
    word_there i = rw (le-leb (n * attr_words + attr_words) (length held) h)

  module _ (h : length held < n * attr_words + attr_words) where
    pub stored_not : (ws : List ℕ) → stored held n ws ≡ held
    unfolding stored
    stored_not ws = rw (lt-leb (n * attr_words + attr_words) (length held) h)

    pub word_not : (i : ℕ) → attr_word held n i ≡ 0
    unfolding attr_word
    word_not i = rw (lt-leb (n * attr_words + attr_words) (length held) h)

  pub stored_length : (ws : List ℕ) → length (stored held n ws) ≡ length held
  unfolding stored
  stored_length ws = go (leb (n * attr_words + attr_words) (length held))
    where
      go : (b : Bool) → length (cond b (sets held (n * attr_words) ws) held) ≡ length held
      go true = length-sets held (n * attr_words) ws
      go false = refl

pub three : (v : Option QuotedOrUnquoted) → length (words_of v) ≡ attr_words
three none = refl
three (some (bare (span s e))) = refl
three (some (in_quotes (span s e))) = refl

-- ---- whether there is room for one more
module _ (room : ℕ) {P : Type 0} (more : attr_words ≤ room → P) (less : room < attr_words → P) where
  pub room_or_not : P
  room_or_not = go (leb attr_words room) refl
    where
      go : (b : Bool) → leb attr_words room ≡ b → P
      go true e = more (leb-true attr_words room e)
      go false e = less (leb-false attr_words room e)

module _ (room : ℕ) (v : Option QuotedOrUnquoted) (vs : List (Option QuotedOrUnquoted)) where
  pub laid_more : attr_words ≤ room → laid room (v ∷ vs) ≡ words_of v ++ laid (room - attr_words) vs
  unfolding laid
  laid_more h = rw (le-leb attr_words room h)

  pub laid_less : room < attr_words → laid room (v ∷ vs) ≡ replicate room 0
  unfolding laid
  laid_less h = rw (lt-leb attr_words room h)

-- ---- one word more is 0
pub cleared_more : (held : List ℕ) (i : ℕ) → i < length held → take i held ≡ replicate i 0 → take (i + 1) (set held i 0) ≡ replicate (i + 1) 0
cleared_more held i h e = rw (← replicate-append-replicate {A = ℕ} i 1 0, ← e) (rw (add-one i) (take-suc-set held i 0 h))

-- ---- as long as what was lent
pub laid_length : (room : ℕ) (vs : List (Option QuotedOrUnquoted)) → length (laid room vs) ≡ room
unfolding laid
laid_length room [] = length-replicate room 0
laid_length room (v ∷ vs) =
    let left = room - attr_words in
    room_or_not room
    (λ h. rw (laid_more room v vs h) (omega (arith, length-append (words_of v) (laid left vs), three v, laid_length left vs)))
    (λ h. rw (laid_less room v vs h) (length-replicate room 0))

-- nothing under any name
pub laid_nothing : (room : ℕ) (names : List (List ℕ)) → laid room (map (λ _. none) names) ≡ replicate room 0
unfolding laid
laid_nothing room [] = refl
laid_nothing room (w ∷ ws) =
    let left = room - attr_words in
    let vs = map (λ _. none) ws in
    room_or_not room
    (λ h. let z : attr_words + left ≡ room = omega arith in
    laid_more room none vs h
    ∙ ap (λ (l : List ℕ). words_of none ++ l) (laid_nothing left ws)
    ∙ replicate-append-replicate attr_words left 0
    ∙ ap (λ (n : ℕ). replicate n 0) z)
    (λ h. laid_less room none vs h)

-- ---- each is read back
laid_word : (room k i : ℕ) (vs : List (Option QuotedOrUnquoted)) → i < attr_words → k * attr_words + attr_words ≤ room
    → get_or (laid room vs) (k * attr_words + i) 0 ≡ get_or (words_of (get_or vs k none)) i 0
unfolding laid
laid_word room k i [] l h = get_or-replicate room (k * attr_words + i) 0 0 (omega arith) ∙ sym (get_or-replicate attr_words i 0 0 l)
laid_word room zero i (v ∷ vs) l h =
    let rest = laid (room - attr_words) vs in
    let z : zero * attr_words + i ≡ i = omega arith in
    rw (laid_more room v vs (omega arith), z) (get_or-append (words_of v) rest 0 i (omega (arith, three v)))
laid_word room (suc k) i (v ∷ vs) l h =
    let rest = laid (room - attr_words) vs in
    let z : suc k * attr_words + i ≡ length (words_of v) + (k * attr_words + i) = omega (arith, three v) in
    rw (laid_more room v vs (omega arith), z, get_or-append-add (words_of v) rest (k * attr_words + i) 0) (laid_word (room - attr_words) k i vs l (omega arith))

pub laid_at : (room k : ℕ) (vs : List (Option QuotedOrUnquoted)) → k * attr_words + attr_words ≤ room → attr_at (laid room vs) k ≡ get_or vs k none
laid_at room k vs h = rw (word 0 (omega arith), word 1 (omega arith), word 2 (omega arith)) (back (get_or vs k none))
  where
    word : (i : ℕ) → i < attr_words → attr_word (laid room vs) k i ≡ get_or (words_of (get_or vs k none)) i 0
    word i l = word_there (laid room vs) k (omega (arith, laid_length room vs)) i ∙ laid_word room k i vs l h

    back : (v : Option QuotedOrUnquoted) → attr_from (get_or (words_of v) 0 0) (span (get_or (words_of v) 1 0) (get_or (words_of v) 2 0)) ≡ v
    back none = refl
    back (some (bare (span s e))) = refl
    back (some (in_quotes (span s e))) = refl
