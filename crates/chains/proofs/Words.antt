-- The words of what is kept: they are read back, and what is laid elsewhere leaves them as they are. Assumes nothing.
use Prim.Native.Nat.{ℕ, suc, ◌+◌, ◌-◌, ◌*◌, ◌≤◌, ◌<◌}
use mathlib.Core.Path.{◌≡◌, refl, ◌∙◌, ap}
use mathlib.Core.List.{List, [], ◌∷◌, ◌++◌, append_assoc}
use mathlib.Core.Option.{Option, none, some}
use native.Mathlib.Omega.{arith}
use lib.ListN.{length, get_or, take, drop, set, length-append, length-drop}
use lib.Seq.{sets, sets-eq, length-take-le, take_at, drop_at, drop-set-add, drop-set-lt, take-set-le, get_or-set_other}
use Rattle.text.specs.Nom.{Span, span}
use Rattle.tables.proofs.Sets.{sets_over}
use Rattle.attributes.specs.Pairs.{QuotedOrUnquoted, bare, in_quotes}
use Rattle.attributes.specs.Held.{attr_at, words_of}
use Rattle.attributes.proofs.Laid.{word_there, three}
use Rattle.chains.specs.Inside.Kept.{start_of, end_of, Memory, memory, chain, failing, place_words, memory_of, memory_words, kept_at}

-- ---- the two values, as `held` reads them
pub first_value : (m : List ℕ) → place_words ≤ length m → attr_at m 0 ≡ (memory_of m).first.value
first_value m h = let w = word_there m 0 (omega arith) in rw (w 0, w 1, w 2)

pub second_value : (m : List ℕ) → place_words ≤ length m → attr_at m 1 ≡ (memory_of m).second.value
second_value m h = let w = word_there m 1 (omega arith) in rw (w 0, w 1, w 2)

-- ---- words laid from p on
-- those before them are as they were
aside : (m : List ℕ) (p i : ℕ) (ws : List ℕ) → i < p → get_or (sets m p ws) i 0 ≡ get_or m i 0
aside m p i [] h = refl
aside m p i (x ∷ ws) h = aside (set m p x) (suc p) i ws (omega arith) ∙ get_or-set_other m p i x 0 (λ e. omega arith)

part_before : (m : List ℕ) (p q n : ℕ) (ws : List ℕ) → q + n ≤ p → take n (drop q (sets m p ws)) ≡ take n (drop q m)
part_before m p q n [] h = refl
part_before m p q n (x ∷ ws) h =
    let e : p ≡ q + (p - q) = omega arith in
    let here : take n (drop q (set m p x)) ≡ take n (drop q m) =
    ap (λ (k : ℕ). take n (drop q (set m k x))) e ∙ ap (take n) (drop-set-add q m (p - q) x) ∙ take-set-le n (drop q m) (p - q) x (omega arith) in
    part_before (set m p x) (suc p) q n ws (omega arith) ∙ here

-- those behind them too
part_behind : (m : List ℕ) (p q : ℕ) (ws : List ℕ) → p + length ws ≤ q → drop q (sets m p ws) ≡ drop q m
part_behind m p q [] h = refl
part_behind m p q (x ∷ ws) h = part_behind (set m p x) (suc p) q ws (omega arith) ∙ drop-set-lt q m p x (omega arith)

-- and they themselves stand there
part_own : (m : List ℕ) (p : ℕ) (ws : List ℕ) → p + length ws ≤ length m → take (length ws) (drop p (sets m p ws)) ≡ ws
part_own m p ws h =
    rw (sets-eq ws m p h, append_assoc, drop_at (take p m) (ws ++ drop (p + length ws) m) p (length-take-le p m (omega arith)))
    (take_at ws (drop (p + length ws) m) (length ws) refl)

-- ---- what is kept, saved: it is read back
pub words_length : (m : Memory) → length (memory_words m) ≡ place_words
words_length m =
    let a = words_of m.first.value in
    let b = words_of m.second.value in
    let rest = start_of m.first.name ∷ end_of m.first.name ∷ m.first.next ∷ m.first.end
    ∷ start_of m.second.name ∷ end_of m.second.name ∷ m.second.next ∷ m.second.end
    ∷ start_of m.fails.dead ∷ end_of m.fails.dead ∷ start_of m.fails.none ∷ end_of m.fails.none ∷ [] in
    let twelve : length rest ≡ 12 = refl in
    omega (arith, length-append a (b ++ rest), length-append b rest, three m.first.value, three m.second.value, twelve)

span_back : (s : Span) → span (start_of s) (end_of s) ≡ s
span_back (span a b) = refl

-- by the kinds of both values
module _ (m n d f : Span) (a b x y : ℕ) (rest : List ℕ) where
  abbrev with : Option QuotedOrUnquoted → Option QuotedOrUnquoted → Memory
  with v w = memory (chain m v a b) (chain n w x y) (failing d f)

  words_back : (v w : Option QuotedOrUnquoted) → memory_of (memory_words (with v w) ++ rest) ≡ with v w
  words_back none none = rw (span_back m, span_back n, span_back d, span_back f)
  words_back none (some (bare (span s e))) = rw (span_back m, span_back n, span_back d, span_back f)
  words_back none (some (in_quotes (span s e))) = rw (span_back m, span_back n, span_back d, span_back f)
  words_back (some (bare (span s e))) none = rw (span_back m, span_back n, span_back d, span_back f)
  words_back (some (bare (span s e))) (some (bare (span t u))) = rw (span_back m, span_back n, span_back d, span_back f)
  words_back (some (bare (span s e))) (some (in_quotes (span t u))) = rw (span_back m, span_back n, span_back d, span_back f)
  words_back (some (in_quotes (span s e))) none = rw (span_back m, span_back n, span_back d, span_back f)
  words_back (some (in_quotes (span s e))) (some (bare (span t u))) = rw (span_back m, span_back n, span_back d, span_back f)
  words_back (some (in_quotes (span s e))) (some (in_quotes (span t u))) = rw (span_back m, span_back n, span_back d, span_back f)

module _ (words : List ℕ) (m : Memory) (h : place_words ≤ length words) where
  abbrev saved : List ℕ
  saved = sets words 0 (memory_words m)

  laid_first : saved ≡ memory_words m ++ drop place_words words
  laid_first = sets_over words (memory_words m) (omega (arith, words_length m)) ∙ rw (words_length m)

  pub saved_back : memory_of (sets words 0 (memory_words m)) ≡ m
  saved_back = rw laid_first (words_back m.first.name m.second.name m.fails.dead m.fails.none m.first.next m.first.end m.second.next m.second.end (drop place_words words) m.first.value m.second.value)

  pub saved_kept : (room k : ℕ) → kept_at room k (sets words 0 (memory_words m)) ≡ kept_at room k words
  saved_kept room k = ap (take room) (part_behind words 0 (place_words + k * room) (memory_words m) (omega (arith, words_length m)))

-- ---- what is held of a list, laid for a chain: for this one it is read back, and all else is as it was
module _ (words held : List ℕ) (room : ℕ) (e : length held ≡ room) where
  module _ (p : ℕ) (h : place_words ≤ p) where
    pub places_aside : memory_of (sets words p held) ≡ memory_of words
    places_aside =
        let g : (i : ℕ) → i < place_words → get_or (sets words p held) i 0 ≡ get_or words i 0 = λ i l. aside words p i held (omega arith) in
        rw (
          g 0 (omega arith),
          g 1 (omega arith),
          g 2 (omega arith),
          g 3 (omega arith),
          g 4 (omega arith),
          g 5 (omega arith),
          g 6 (omega arith),
          g 7 (omega arith),
          g 8 (omega arith),
          g 9 (omega arith),
          g 10 (omega arith),
          g 11 (omega arith),
          g 12 (omega arith),
          g 13 (omega arith),
          g 14 (omega arith),
          g 15 (omega arith),
          g 16 (omega arith),
          g 17 (omega arith),
        )

  module _ (h : place_words + 2 * room ≤ length words) where
    pub first_laid : kept_at room 0 (sets words place_words held) ≡ held
    first_laid = let z : place_words + 0 * room ≡ place_words = omega arith in rw (z, ← e) (part_own words place_words held (omega arith))

    pub second_aside : kept_at room 1 (sets words place_words held) ≡ kept_at room 1 words
    second_aside = ap (take room) (part_behind words place_words (place_words + 1 * room) held (omega arith))

    pub second_laid : kept_at room 1 (sets words (place_words + room) held) ≡ held
    second_laid = let z : place_words + 1 * room ≡ place_words + room = omega arith in rw (z, ← e) (part_own words (place_words + length held) held (omega arith))

    pub first_aside : kept_at room 0 (sets words (place_words + room) held) ≡ kept_at room 0 words
    first_aside = part_before words (place_words + room) (place_words + 0 * room) room held (omega arith)

-- ---- the parts of the words that the code hands on
module _ (room : ℕ) (m : List ℕ) where
  pub first_part : take (place_words + room - place_words) (drop place_words m) ≡ kept_at room 0 m
  first_part = let z : place_words + room - place_words ≡ room = omega arith in let y : place_words + 0 * room ≡ place_words = omega arith in rw (z, y)

  pub second_part : take (place_words + room + room - (place_words + room)) (drop (place_words + room) m) ≡ kept_at room 1 m
  second_part = let z : place_words + room + room - (place_words + room) ≡ room = omega arith in let y : place_words + 1 * room ≡ place_words + room = omega arith in rw (z, y)

  pub part_length : (k : ℕ) → place_words + k * room + room ≤ length m → length (kept_at room k m) ≡ room
  part_length k h = length-take-le room (drop (place_words + k * room) m) (rw (length-drop (place_words + k * room) m) (omega arith))
