-- Out of the words that a record was stored as comes the record itself: for each clip whose title, and each tag whose rest, is a real span or none.
-- A present part whose end is 0 has the words of an absent one; no reading makes it, since the text begins with `#EXTM3U`.
-- Rests on `clip-back`, `tag_back` of media's ReadBack. Assumes nothing.
use mathlib.Core.Path.{◌≡◌, refl, sym, ap, ◌∙◌}
use mathlib.Core.Bool.{Bool, true, false, and-false}
use mathlib.Core.List.{List, [], ◌∷◌, ◌++◌, append_assoc}
use mathlib.Core.Option.{Option, none, some}
use Prim.Native.Nat.{ℕ, suc, ◌<◌}
use native.Mathlib.Omega.{arith}
use lib.Dec.{eqb}
use lib.ListN.{length, get_or, length-append}
use borrow.Author.Tests.{ne_eqb}
use Rattle.text.specs.Nom.{Span, span}
use Rattle.text.specs.Util.{ByteRange, range}
use Rattle.text.specs.BasicTags.{ExtTag, ext}
use Rattle.attributes.specs.ExtMap.{Map, ext_map}
use Rattle.tables.specs.Layout as layout
use Rattle.tables.specs.Table.{listed, clip_word, tag_word, has_flag}
use Rattle.assembly.specs.Assembly.{segment, Clip, clip}
use Rattle.assembly.specs.Words.{span_words, part_words, range_words, map_words, flags_of, clip_words_of, tag_words_of, clips_words, tags_words}
use Rattle.assembly.proofs.ReadBack.{clip_back, tag_back}
use Rattle.records.specs.Records.{optional, part_at, range_at, map_at, clip_at, tag_at, clips_at, tags_at}

-- ---- parts
-- a part that is absent, or ends past 0
abbrev pub RealPart : Option Span → Type 0
RealPart none = Unit {0}
RealPart (some (span a b)) = 0 < b

-- word i of a part, a range or a map
abbrev at : List ℕ → ℕ → ℕ
at words i = get_or words i 0

span_back : (s : Span) → span (at (span_words s) 0) (at (span_words s) 1) ≡ s
span_back (span a b) = refl

part_back : (p : Option Span) → RealPart p → part_at (at (part_words p) 0) (at (part_words p) 1) ≡ p
unfolding part_at
part_back none h = refl
part_back (some (span a b)) h =
    let e : eqb b 0 ≡ false = ne_eqb b 0 (λ z. omega arith) in
    rw (e, and-false (eqb a 0))

-- ---- flags
module _ (flags : ℕ) where
  -- a map out of its words
  abbrev map_from : List ℕ → Option Map
  map_from w =
      optional (has_flag flags layout.has_map)
      (ext_map (span (at w 0) (at w 1)) (range_at flags layout.has_map_range layout.has_map_offset (at w 2) (at w 3)) (span (at w 4) (at w 5)))

  -- range, mark and map are what flags and words tell
  abbrev Tell : Option ByteRange → Bool → Option Map → Type 0
  Tell r d m =
      (range_at flags layout.has_range layout.has_range_offset (at (range_words r) 0) (at (range_words r) 1) ≡ r)
      × (has_flag flags layout.has_discontinuity ≡ d)
      × (map_from (map_words m) ≡ m)

-- in each of the 3 x 2 x 4 shapes, by computation
flags_tell : (r : Option ByteRange) (d : Bool) (m : Option Map) → Tell (flags_of r d m) r d m
unfolding range_at has_flag
flags_tell none false none = (refl, refl, refl)
flags_tell none false (some (ext_map (span a b) none (span x y))) = (refl, refl, refl)
flags_tell none false (some (ext_map (span a b) (some (range j none)) (span x y))) = (refl, refl, refl)
flags_tell none false (some (ext_map (span a b) (some (range j (some i))) (span x y))) = (refl, refl, refl)
flags_tell none true none = (refl, refl, refl)
flags_tell none true (some (ext_map (span a b) none (span x y))) = (refl, refl, refl)
flags_tell none true (some (ext_map (span a b) (some (range j none)) (span x y))) = (refl, refl, refl)
flags_tell none true (some (ext_map (span a b) (some (range j (some i))) (span x y))) = (refl, refl, refl)
flags_tell (some (range n none)) false none = (refl, refl, refl)
flags_tell (some (range n none)) false (some (ext_map (span a b) none (span x y))) = (refl, refl, refl)
flags_tell (some (range n none)) false (some (ext_map (span a b) (some (range j none)) (span x y))) = (refl, refl, refl)
flags_tell (some (range n none)) false (some (ext_map (span a b) (some (range j (some i))) (span x y))) = (refl, refl, refl)
flags_tell (some (range n none)) true none = (refl, refl, refl)
flags_tell (some (range n none)) true (some (ext_map (span a b) none (span x y))) = (refl, refl, refl)
flags_tell (some (range n none)) true (some (ext_map (span a b) (some (range j none)) (span x y))) = (refl, refl, refl)
flags_tell (some (range n none)) true (some (ext_map (span a b) (some (range j (some i))) (span x y))) = (refl, refl, refl)
flags_tell (some (range n (some o))) false none = (refl, refl, refl)
flags_tell (some (range n (some o))) false (some (ext_map (span a b) none (span x y))) = (refl, refl, refl)
flags_tell (some (range n (some o))) false (some (ext_map (span a b) (some (range j none)) (span x y))) = (refl, refl, refl)
flags_tell (some (range n (some o))) false (some (ext_map (span a b) (some (range j (some i))) (span x y))) = (refl, refl, refl)
flags_tell (some (range n (some o))) true none = (refl, refl, refl)
flags_tell (some (range n (some o))) true (some (ext_map (span a b) none (span x y))) = (refl, refl, refl)
flags_tell (some (range n (some o))) true (some (ext_map (span a b) (some (range j none)) (span x y))) = (refl, refl, refl)
flags_tell (some (range n (some o))) true (some (ext_map (span a b) (some (range j (some i))) (span x y))) = (refl, refl, refl)

-- ---- a clip
-- present parts are real
abbrev pub RealClip : Clip → Type 0
RealClip c = RealPart c.segment.title

-- a clip out of its words
abbrev clip_from : (ℕ → ℕ) → Clip
clip_from w =
    clip (span (w layout.uri_start) (w layout.uri_end))
    (segment (w layout.length_ns)
    (part_at (w layout.title_start) (w layout.title_end))
    (range_at (w layout.flags) layout.has_range layout.has_range_offset (w layout.range_length) (w layout.range_offset))
    (has_flag (w layout.flags) layout.has_discontinuity)
    (map_from (w layout.flags) (w layout.map_uri_start ∷ w layout.map_uri_end ∷ w layout.map_range_length ∷ w layout.map_range_offset ∷ w layout.map_list_start ∷ w layout.map_list_end ∷ [])))
    (w layout.first_tag)
    (w layout.tag_count)

-- words that agree make the same clip
clip_from_same : (v w : ℕ → ℕ) → ((i : ℕ) → i < layout.clip_words → v i ≡ w i) → clip_from v ≡ clip_from w
clip_from_same v w h =
    rw (h 0 (omega arith), h 1 (omega arith), h 2 (omega arith), h 4 (omega arith), h 5 (omega arith), h 6 (omega arith), h 7 (omega arith), h 8 (omega arith))
    (rw (h 9 (omega arith), h 10 (omega arith), h 11 (omega arith), h 12 (omega arith), h 13 (omega arith), h 14 (omega arith), h 15 (omega arith), h 16 (omega arith)))

-- the parts of a record have two, two, two and six words
pub span_two : (s : Span) → span_words s ≡ at (span_words s) 0 ∷ at (span_words s) 1 ∷ []
span_two (span a b) = refl

pub part_two : (p : Option Span) → part_words p ≡ at (part_words p) 0 ∷ at (part_words p) 1 ∷ []
part_two none = refl
part_two (some (span a b)) = refl

pub range_two : (r : Option ByteRange) → range_words r ≡ at (range_words r) 0 ∷ at (range_words r) 1 ∷ []
range_two none = refl
range_two (some (range n none)) = refl
range_two (some (range n (some o))) = refl

pub map_six : (m : Option Map) → map_words m ≡ at (map_words m) 0 ∷ at (map_words m) 1 ∷ at (map_words m) 2 ∷ at (map_words m) 3 ∷ at (map_words m) 4 ∷ at (map_words m) 5 ∷ []
map_six none = refl
map_six (some (ext_map (span a b) none (span x y))) = refl
map_six (some (ext_map (span a b) (some (range j none)) (span x y))) = refl
map_six (some (ext_map (span a b) (some (range j (some i))) (span x y))) = refl

clip_from_back : (c : Clip) → RealClip c → clip_from (at (clip_words_of c)) ≡ c
unfolding clip_words_of
clip_from_back c h =
    let s = c.segment in
    let told = flags_tell s.range s.discontinuity s.map in
    rw (span_two c.uri, part_two s.title, range_two s.range, map_six s.map)
    (λ i. clip (span_back c.uri i) (segment s.length (part_back s.title h i) (told.0 i) (told.1 i) (told.2 i)) c.first_tag c.tag_count)

pub clip_at_back : (cs ds : List Clip) (c : Clip) (rest : List ℕ) → RealClip c → clip_at (clips_words (cs ++ (c ∷ ds)) ++ rest) (length cs) ≡ c
unfolding clip_at map_at
clip_at_back cs ds c rest h =
    clip_from_same (clip_word (clips_words (cs ++ (c ∷ ds)) ++ rest) (length cs)) (at (clip_words_of c)) (λ i l. clip_back cs ds c rest i l) ∙ clip_from_back c h

-- ---- an unknown tag
abbrev pub RealTag : ExtTag → Type 0
RealTag (ext name rest) = RealPart rest

abbrev tag_from : (ℕ → ℕ) → ExtTag
tag_from w = ext (span (w layout.name_start) (w layout.name_end)) (part_at (w layout.rest_start) (w layout.rest_end))

tag_from_same : (v w : ℕ → ℕ) → ((i : ℕ) → i < layout.tag_words → v i ≡ w i) → tag_from v ≡ tag_from w
tag_from_same v w h = rw (h 0 (omega arith), h 1 (omega arith), h 2 (omega arith), h 3 (omega arith))

tag_from_back : (t : ExtTag) → RealTag t → tag_from (at (tag_words_of t)) ≡ t
unfolding tag_words_of
tag_from_back (ext (span a b) rest) h = rw (part_two rest) (λ i. ext (span a b) (part_back rest h i))

pub tag_at_back : (ts us : List ExtTag) (t : ExtTag) (rest : List ℕ) → RealTag t → tag_at (tags_words (ts ++ (t ∷ us)) ++ rest) (length ts) ≡ t
unfolding tag_at
tag_at_back ts us t rest h =
    tag_from_same (tag_word (tags_words (ts ++ (t ∷ us)) ++ rest) (length ts)) (at (tag_words_of t)) (λ i l. tag_back ts us t rest i l) ∙ tag_from_back t h

-- ---- lists of records
-- each of a list
unfoldable pub All : {A : Type 0} → (A → Type 0) → List A → Type 0
All P [] = Unit {0}
All P (a ∷ xs) = P a × All P xs

pub all_append : {A : Type 0} (P : A → Type 0) (xs ys : List A) → All P xs → All P ys → All P (xs ++ ys)
unfolding All
all_append P [] ys g h = h
all_append P (a ∷ xs) ys g h = (g.0, all_append P xs ys g.1 h)

module _ {A : Type 0} (P : A → Type 0) (stored : ℕ → A) where
  -- record after record is the list, where each record behind some others is that of the list
  listed_back : (before xs : List A) → All P xs → ((cs ds : List A) (c : A) → P c → before ++ xs ≡ cs ++ (c ∷ ds) → stored (length cs) ≡ c) → listed stored (length before) (length xs) ≡ xs
  unfolding All listed
  listed_back before [] g h = refl
  listed_back before (a ∷ xs) g h =
      let e : before ++ (a ∷ []) ++ xs ≡ before ++ (a ∷ xs) = append_assoc before (a ∷ []) xs in
      let l : length (before ++ (a ∷ [])) ≡ suc (length before) = rw length-append (omega arith) in
      let i = listed_back (before ++ (a ∷ [])) xs g.1 (λ cs ds c p q. h cs ds c p (sym e ∙ q)) in
      rw (h before xs a g.0 refl) (ap (λ (ys : List A). a ∷ ys) (rw l at i))

pub clips_back : (cs : List Clip) (rest : List ℕ) → All RealClip cs → clips_at (clips_words cs ++ rest) (length cs) ≡ cs
clips_back cs rest h = listed_back RealClip (clip_at (clips_words cs ++ rest)) [] cs h (λ before after c r e. rw e (clip_at_back before after c rest r))

pub tags_back : (ts : List ExtTag) (rest : List ℕ) → All RealTag ts → tags_at (tags_words ts ++ rest) (length ts) ≡ ts
tags_back ts rest h = listed_back RealTag (tag_at (tags_words ts ++ rest)) [] ts h (λ before after t r e. rw e (tag_at_back before after t rest r))
