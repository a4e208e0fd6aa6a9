-- What the reader gives keeps rule 9: its words, whatever stands behind them in the tables, pass every test of the writer's rule. Assumes nothing.
use Prim.Native.Nat.{ℕ, zero, suc, ◌+◌, ◌≤◌, ◌<◌}
use mathlib.Core.Path.{◌≡◌, refl, sym, ◌∙◌, ap, subst}
use mathlib.Core.Bool.{Bool, true, false, ◌&&◌}
use mathlib.Core.List.{List, [], ◌∷◌, ◌++◌}
use mathlib.Core.Option.{Option, none, some}
use native.Mathlib.Omega.{arith}
use lib.Dec.{ltb, eqb}
use lib.ListN.{length, get_or, length-append}
use borrow.Author.Tests.{le-leb, lt-ltb, eq-eqb}
use Rattle.text.specs.Nom.{Span, span, bytes, is_none_of}
use Rattle.text.specs.Util.{ByteRange, range}
use Rattle.text.specs.BasicTags.{ExtTag, ext, PlaylistType, event, vod, other}
use Rattle.attributes.specs.ExtMap.{Map, ext_map}
use Rattle.lengths.specs.Binary32.{seconds_bits}
use Rattle.tables.specs.Layout as layout
use Rattle.tables.specs.Table.{clips_fit, tags_fit, clip_word, tag_word, has_flag}
use Rattle.tables.proofs.Every.{every_of}
use Rattle.tables.proofs.Records.{words_fit}
use Rattle.assembly.specs.Assembly.{Head, Clip}
use Rattle.media.specs.Calls.{clips_read, tags_read}
use Rattle.assembly.specs.Words.{part_words, range_words, map_words, flags_of, clip_words_of, tag_words_of, clips_words, tags_words}
use Rattle.assembly.proofs.Records.{clips_words_length, tags_words_length}
use Rattle.assembly.proofs.ReadBack.{clip_back, tag_back}
use Rattle.text.specs.Spans.{span_fits}
use Rattle.rule9.specs.Rule9.{type_fits, head_fits, flags_keep, zero_without, plain_keep, range_keeps, map_keeps, clip_keeps, tag_keeps, tags_up_to, runs_adjoin, keeps_rule}
use Rattle.records.proofs.Back.{All, span_two, part_two, range_two, map_six}
use Rattle.text.proofs.Laws.{and_left, and_right}
use Rattle.roundtrip.proofs.Gives.{If, Shows}
use Rattle.roundtrip.proofs.Values.{SoundType, SoundMap}
use Rattle.roundtrip.proofs.Told.{Adjoin}
use Rattle.roundtrip.proofs.Again.{head_read}
use Rattle.roundtrip.proofs.Guaranteed.{SoundHeadOf, SoundClipOf, SoundTagOf, SoundList}

-- ---- the k-th of a list, between those before it and those after it
pub record At {A : Type 0} (P : A → Type 0) (xs : List A) (k : ℕ) : Type 0 where
  pub before : List A
  pub here : A
  pub after : List A
  pub whole : xs ≡ before ++ (here ∷ after)
  pub place : length before ≡ k
  pub holds : P here

at_place : {A : Type 0} (P : A → Type 0) (xs : List A) (k : ℕ) → All P xs → k < length xs → At P xs k
unfolding All
at_place P [] k h l = absurd (omega (arith, l))
at_place P (x ∷ xs) zero h l = record { before = []; here = x; after = xs; whole = refl; place = refl; holds = h.0 }
at_place P (x ∷ xs) (suc k) h l =
    let a = at_place P xs k h.1 (omega (arith, l)) in
    record { before = x ∷ a.before; here = a.here; after = a.after; whole = ap (λ l. x ∷ l) a.whole; place = ap suc a.place; holds = a.holds }

-- what is said of a list and a number, said of the place
moved : {A B : Type 0} {P : A → Type 0} {xs : List A} {k : ℕ} (x : At P xs k) (f : List A → ℕ → B) → f xs k ≡ f (x.before ++ (x.here ∷ x.after)) (length x.before)
moved {xs = xs} x f = ap (f xs) (sym x.place) ∙ ap (λ l. f l (length x.before)) x.whole

-- ---- spans
module _ (text : List ℕ) where
  span_fits_lem : (a b : ℕ) → a ≤ b → b ≤ length text → span_fits text a b ≡ true
  span_fits_lem a b h k = rw (le-leb a b h, le-leb b (length text) k)

  shows_fits : (p : ℕ → Bool) (a b : ℕ) → Shows p text (span a b) → span_fits text a b ≡ true
  shows_fits p a b h = span_fits_lem a b (omega (arith, h.long)) h.within

  abbrev two : List ℕ → Bool
  two w = span_fits text (get_or w 0 0) (get_or w 1 0)

  part_fits : (p : ℕ → Bool) (t : Option Span) → If (Shows p text) t → two (part_words t) ≡ true
  part_fits p none h = span_fits_lem 0 0 (omega arith) (omega arith)
  part_fits p (some (span a b)) h = shows_fits p a b h

  -- ---- the head
  head_fits_lem : (h : Head) → SoundHeadOf text h → head_fits text h ≡ true
  head_fits_lem h k = go h.type k.type
    where
      go : (p : Option PlaylistType) → If (SoundType text) p → type_fits text p ≡ true
      go none k = refl
      go (some event) k = refl
      go (some vod) k = refl
      go (some (other (span a b))) k = shows_fits (is_none_of (bytes "\r\n")) a b k.0

-- ---- flags, and zeros where they are not there: in each of the 3 x 2 x 4 shapes, by computation
abbrev shape_keeps : ℕ → List ℕ → List ℕ → Bool
shape_keeps f r m =
    flags_keep f
    && (zero_without f layout.has_range (get_or r 0 0)
    && (zero_without f layout.has_range_offset (get_or r 1 0)
    && (zero_without f layout.has_map (get_or m 0 0)
    && (zero_without f layout.has_map (get_or m 1 0)
    && (zero_without f layout.has_map (get_or m 4 0)
    && (zero_without f layout.has_map (get_or m 5 0)
    && (zero_without f layout.has_map_range (get_or m 2 0)
    && zero_without f layout.has_map_offset (get_or m 3 0))))))))

shape_keeps_lem : (r : Option ByteRange) (d : Bool) (m : Option Map) → shape_keeps (flags_of r d m) (range_words r) (map_words m) ≡ true
unfolding flags_keep has_flag
shape_keeps_lem none false none = refl
shape_keeps_lem none false (some (ext_map (span a b) none (span x y))) = refl
shape_keeps_lem none false (some (ext_map (span a b) (some (range j none)) (span x y))) = refl
shape_keeps_lem none false (some (ext_map (span a b) (some (range j (some i))) (span x y))) = refl
shape_keeps_lem none true none = refl
shape_keeps_lem none true (some (ext_map (span a b) none (span x y))) = refl
shape_keeps_lem none true (some (ext_map (span a b) (some (range j none)) (span x y))) = refl
shape_keeps_lem none true (some (ext_map (span a b) (some (range j (some i))) (span x y))) = refl
shape_keeps_lem (some (range n none)) false none = refl
shape_keeps_lem (some (range n none)) false (some (ext_map (span a b) none (span x y))) = refl
shape_keeps_lem (some (range n none)) false (some (ext_map (span a b) (some (range j none)) (span x y))) = refl
shape_keeps_lem (some (range n none)) false (some (ext_map (span a b) (some (range j (some i))) (span x y))) = refl
shape_keeps_lem (some (range n none)) true none = refl
shape_keeps_lem (some (range n none)) true (some (ext_map (span a b) none (span x y))) = refl
shape_keeps_lem (some (range n none)) true (some (ext_map (span a b) (some (range j none)) (span x y))) = refl
shape_keeps_lem (some (range n none)) true (some (ext_map (span a b) (some (range j (some i))) (span x y))) = refl
shape_keeps_lem (some (range n (some o))) false none = refl
shape_keeps_lem (some (range n (some o))) false (some (ext_map (span a b) none (span x y))) = refl
shape_keeps_lem (some (range n (some o))) false (some (ext_map (span a b) (some (range j none)) (span x y))) = refl
shape_keeps_lem (some (range n (some o))) false (some (ext_map (span a b) (some (range j (some i))) (span x y))) = refl
shape_keeps_lem (some (range n (some o))) true none = refl
shape_keeps_lem (some (range n (some o))) true (some (ext_map (span a b) none (span x y))) = refl
shape_keeps_lem (some (range n (some o))) true (some (ext_map (span a b) (some (range j none)) (span x y))) = refl
shape_keeps_lem (some (range n (some o))) true (some (ext_map (span a b) (some (range j (some i))) (span x y))) = refl

-- ---- a clip's words
module _ (text : List ℕ) where
  -- the rule over words, wherever they stand
  abbrev keeps_from : (ℕ → ℕ) → Bool
  keeps_from w =
      (span_fits text (w layout.uri_start) (w layout.uri_end) && (ltb (w layout.length_ns) layout.length_limit && (eqb (w layout.bits) (seconds_bits (w layout.length_ns)) && span_fits text (w layout.title_start) (w layout.title_end))))
      && (flags_keep (w layout.flags)
      && ((zero_without (w layout.flags) layout.has_range (w layout.range_length) && zero_without (w layout.flags) layout.has_range_offset (w layout.range_offset))
      && (span_fits text (w layout.map_uri_start) (w layout.map_uri_end)
      && (span_fits text (w layout.map_list_start) (w layout.map_list_end)
      && (zero_without (w layout.flags) layout.has_map (w layout.map_uri_start)
      && (zero_without (w layout.flags) layout.has_map (w layout.map_uri_end)
      && (zero_without (w layout.flags) layout.has_map (w layout.map_list_start)
      && (zero_without (w layout.flags) layout.has_map (w layout.map_list_end)
      && (zero_without (w layout.flags) layout.has_map_range (w layout.map_range_length)
      && zero_without (w layout.flags) layout.has_map_offset (w layout.map_range_offset))))))))))

  keeps_same : (v w : ℕ → ℕ) → ((i : ℕ) → i < layout.clip_words → v i ≡ w i) → keeps_from v ≡ keeps_from w
  keeps_same v w h =
      rw (h 0 (omega arith), h 1 (omega arith), h 2 (omega arith), h 3 (omega arith), h 4 (omega arith), h 5 (omega arith), h 6 (omega arith))
      (rw (h 7 (omega arith), h 8 (omega arith), h 9 (omega arith), h 10 (omega arith), h 11 (omega arith), h 12 (omega arith), h 13 (omega arith), h 14 (omega arith)))

  map_fits : (m : Option Map) → If (SoundMap text) m → (span_fits text (get_or (map_words m) 0 0) (get_or (map_words m) 1 0) ≡ true) × (span_fits text (get_or (map_words m) 4 0) (get_or (map_words m) 5 0) ≡ true)
  map_fits none h = (span_fits_lem text 0 0 (omega arith) (omega arith), span_fits_lem text 0 0 (omega arith) (omega arith))
  map_fits (some (ext_map (span a b) none (span x y))) h = (shows_fits text (is_none_of (bytes "\"")) a b h.0, span_fits_lem text x y h.2.0 h.2.1)
  map_fits (some (ext_map (span a b) (some (range n none)) (span x y))) h = (shows_fits text (is_none_of (bytes "\"")) a b h.0, span_fits_lem text x y h.2.0 h.2.1)
  map_fits (some (ext_map (span a b) (some (range n (some o))) (span x y))) h = (shows_fits text (is_none_of (bytes "\"")) a b h.0, span_fits_lem text x y h.2.0 h.2.1)

  -- the tests that shape-keeps answers, one by one
  joined : (f r0 r1 m0 m1 m2 m3 m4 m5 : ℕ) → shape_keeps f (r0 ∷ r1 ∷ []) (m0 ∷ m1 ∷ m2 ∷ m3 ∷ m4 ∷ m5 ∷ []) ≡ true → span_fits text m0 m1 ≡ true → span_fits text m4 m5 ≡ true
      → (flags_keep f
      && ((zero_without f layout.has_range r0 && zero_without f layout.has_range_offset r1)
      && (span_fits text m0 m1
      && (span_fits text m4 m5
      && (zero_without f layout.has_map m0
      && (zero_without f layout.has_map m1
      && (zero_without f layout.has_map m4
      && (zero_without f layout.has_map m5
      && (zero_without f layout.has_map_range m2
      && zero_without f layout.has_map_offset m3))))))))) ≡ true
  joined f r0 r1 m0 m1 m2 m3 m4 m5 e u l =
      let e1 = and_right (flags_keep f) _ e in
      let e2 = and_right (zero_without f layout.has_range r0) _ e1 in
      let e3 = and_right (zero_without f layout.has_range_offset r1) _ e2 in
      let z : flags_keep f ≡ true = and_left _ _ e in
      let z1 : zero_without f layout.has_range r0 ≡ true = and_left _ _ e1 in
      let z2 : zero_without f layout.has_range_offset r1 ≡ true = and_left _ _ e2 in
      rw (z, z1, z2, u, l) e3

  words_keep : (c : Clip) → SoundClipOf text c → keeps_from (λ i. get_or (clip_words_of c) i 0) ≡ true
  unfolding clip_words_of
  words_keep c h =
      let s = c.segment in
      let r = s.range in
      let d = s.discontinuity in
      let m = s.map in
      let j =
      joined (flags_of r d m) (get_or (range_words r) 0 0) (get_or (range_words r) 1 0) (get_or (map_words m) 0 0) (get_or (map_words m) 1 0) (get_or (map_words m) 2 0) (get_or (map_words m) 3 0)
      (get_or (map_words m) 4 0) (get_or (map_words m) 5 0) (shape_keeps_lem r d m) (map_fits m h.1.map).0 (map_fits m h.1.map).1 in
      let u = part_fits text (is_none_of (bytes "\r\n")) (some c.uri) h.0.0 in
      let t = part_fits text (is_none_of (bytes "\r\n,")) s.title h.1.title in
      rw (span_two c.uri, part_two s.title, range_two r, map_six m)
      (rw (u, lt-ltb s.length layout.length_limit h.1.length, eq-eqb (seconds_bits s.length) (seconds_bits s.length) refl, t) j)

  clip_keeps_here : (before after : List Clip) (c : Clip) (rest : List ℕ) → SoundClipOf text c → clip_keeps text (clips_words (before ++ (c ∷ after)) ++ rest) (length before) ≡ true
  unfolding clip_keeps plain_keep range_keeps map_keeps
  clip_keeps_here before after c rest h =
      keeps_same (clip_word (clips_words (before ++ (c ∷ after)) ++ rest) (length before)) (λ i. get_or (clip_words_of c) i 0) (λ i b. clip_back before after c rest i b)
      ∙ words_keep c h

  clip_keeps_lem : (cs : List Clip) (rest : List ℕ) → All (SoundClipOf text) cs → (k : ℕ) → k < length cs → clip_keeps text (clips_words cs ++ rest) k ≡ true
  clip_keeps_lem cs rest h k l =
      let x = at_place (SoundClipOf text) cs k h l in
      moved x (λ xs j. clip_keeps text (clips_words xs ++ rest) j) ∙ clip_keeps_here x.before x.after x.here rest x.holds

  -- ---- an unknown tag's words
  tag_words_keep : (t : ExtTag) → SoundTagOf text t
      → (span_fits text (get_or (tag_words_of t) layout.name_start 0) (get_or (tag_words_of t) layout.name_end 0) && span_fits text (get_or (tag_words_of t) layout.rest_start 0) (get_or (tag_words_of t) layout.rest_end 0)) ≡ true
  unfolding tag_words_of
  tag_words_keep (ext (span a b) r) h = rw (part_two r) (rw (shows_fits text (is_none_of (bytes "\r\n:")) a b h.0.0, part_fits text (is_none_of (bytes "\r\n")) r h.0.1))

  tag_keeps_here : (before after : List ExtTag) (t : ExtTag) (rest : List ℕ) → SoundTagOf text t → tag_keeps text (tags_words (before ++ (t ∷ after)) ++ rest) (length before) ≡ true
  unfolding tag_keeps
  tag_keeps_here before after t rest h =
      let w : (i : ℕ) → i < layout.tag_words → tag_word (tags_words (before ++ (t ∷ after)) ++ rest) (length before) i ≡ get_or (tag_words_of t) i 0 = λ i b. tag_back before after t rest i b in
      rw (w 0 (omega arith), w 1 (omega arith), w 2 (omega arith), w 3 (omega arith)) (tag_words_keep t h)

  tag_keeps_lem : (ts : List ExtTag) (rest : List ℕ) → All (SoundTagOf text) ts → (k : ℕ) → k < length ts → tag_keeps text (tags_words ts ++ rest) k ≡ true
  tag_keeps_lem ts rest h k l =
      let x = at_place (SoundTagOf text) ts k h l in
      moved x (λ xs j. tag_keeps text (tags_words xs ++ rest) j) ∙ tag_keeps_here x.before x.after x.here rest x.holds

-- ---- the runs of unknown tags
-- where the run of clip k begins, from f on
run_at : ℕ → List Clip → ℕ → ℕ
run_at f [] k = f
run_at f (c ∷ cs) zero = f
run_at f (c ∷ cs) (suc k) = run_at (f + c.tag_count) cs k

run_next : (f : ℕ) (before after : List Clip) (c : Clip) → run_at f (before ++ (c ∷ after)) (suc (length before)) ≡ run_at f (before ++ (c ∷ after)) (length before) + c.tag_count
unfolding run_at
run_next f [] [] c = refl
run_next f [] (d ∷ after) c = refl
run_next f (b ∷ before) after c = run_next (f + b.tag_count) before after c

run_first : (f total : ℕ) (before after : List Clip) (c : Clip) → Adjoin f (before ++ (c ∷ after)) total → c.first_tag ≡ run_at f (before ++ (c ∷ after)) (length before)
unfolding run_at
run_first f total [] after c a = a.0
run_first f total (b ∷ before) after c a = run_first (f + b.tag_count) total before after c a.1

run_all : (f total : ℕ) (cs : List Clip) → Adjoin f cs total → run_at f cs (length cs) ≡ total
unfolding run_at
run_all f total [] a = a
run_all f total (c ∷ cs) a = run_all (f + c.tag_count) total cs a.1

first_word : (c : Clip) → get_or (clip_words_of c) layout.first_tag 0 ≡ c.first_tag
unfolding clip_words_of
first_word c = let s = c.segment in rw (span_two c.uri, part_two s.title, range_two s.range, map_six s.map)

many_word : (c : Clip) → get_or (clip_words_of c) layout.tag_count 0 ≡ c.tag_count
unfolding clip_words_of
many_word c = let s = c.segment in rw (span_two c.uri, part_two s.title, range_two s.range, map_six s.map)

module _ (cs : List Clip) (rest : List ℕ) where
  abbrev table : List ℕ
  table = clips_words cs ++ rest

  all_any : (xs : List Clip) → All (λ c. Unit {0}) xs
  unfolding All
  all_any [] = tt
  all_any (x ∷ xs) = (tt, all_any xs)

  place_of : (k : ℕ) → k < length cs → At (λ c. Unit {0}) cs k
  place_of k l = at_place (λ c. Unit {0}) cs k (all_any cs) l

  word_of : {k : ℕ} (x : At (λ c. Unit {0}) cs k) (i : ℕ) → i < layout.clip_words → clip_word table k i ≡ get_or (clip_words_of x.here) i 0
  word_of x i b = moved x (λ xs j. clip_word (clips_words xs ++ rest) j i) ∙ clip_back x.before x.after x.here rest i b

  upto : (k : ℕ) → k ≤ length cs → tags_up_to table k ≡ run_at 0 cs k
  unfolding tags_up_to run_at
  upto zero l = go cs
    where
      go : (xs : List Clip) → 0 ≡ run_at 0 xs 0
      go [] = refl
      go (x ∷ xs) = refl
  upto (suc k) l =
      let x = place_of k (omega (arith, l)) in
      let w = word_of x layout.tag_count (omega arith) ∙ many_word x.here in
      let n = moved x (λ xs j. run_at 0 xs (suc j)) ∙ run_next 0 x.before x.after x.here in
      ap (λ (a : ℕ). a + clip_word table k layout.tag_count) (upto k (omega (arith, l)))
      ∙ ap (λ (b : ℕ). run_at 0 cs k + b) w
      ∙ ap (λ (a : ℕ). a + x.here.tag_count) (moved x (run_at 0))
      ∙ sym n

  first_there : (total : ℕ) → Adjoin 0 cs total → (k : ℕ) → k < length cs → eqb (clip_word table k layout.first_tag) (tags_up_to table k) ≡ true
  first_there total a k l =
      let x = place_of k l in
      let w = word_of x layout.first_tag (omega arith) ∙ first_word x.here in
      let f = run_first 0 total x.before x.after x.here (subst (λ xs. Adjoin 0 xs total) x.whole a) ∙ sym (moved x (run_at 0)) in
      eq-eqb (clip_word table k layout.first_tag) (tags_up_to table k) (w ∙ f ∙ sym (upto k (omega (arith, l))))

  runs_adjoin_lem : (total : ℕ) → Adjoin 0 cs total → runs_adjoin table (length cs) total ≡ true
  unfolding runs_adjoin
  runs_adjoin_lem total a =
      rw (every_of (λ k. eqb (clip_word table k layout.first_tag) (tags_up_to table k)) (length cs) (first_there total a), upto (length cs) (omega arith), run_all 0 total cs a, eq-eqb total total refl)

-- ---- the whole rule
module _ (text : List ℕ) (sound : SoundList text) (adjoins : Adjoin 0 (clips_read text) (length (tags_read text))) where
  pub reader_keeps : (clips tags : List ℕ)
      → keeps_rule text (head_read text) (clips_words (clips_read text) ++ clips) (length (clips_read text)) (tags_words (tags_read text) ++ tags) (length (tags_read text)) ≡ true
  unfolding keeps_rule
  reader_keeps clips tags =
      let cs = clips_read text in
      let gs = tags_read text in
      let fit_clips : clips_fit (clips_words cs ++ clips) (length cs) ≡ true = words_fit layout.clip_words (length cs) (clips_words cs ++ clips) (omega (arith, length-append (clips_words cs) clips, clips_words_length cs)) in
      let fit_tags : tags_fit (tags_words gs ++ tags) (length gs) ≡ true = words_fit layout.tag_words (length gs) (tags_words gs ++ tags) (omega (arith, length-append (tags_words gs) tags, tags_words_length gs)) in
      let each-clip = every_of (clip_keeps text (clips_words cs ++ clips)) (length cs) (clip_keeps_lem text cs clips sound.clips) in
      let each-tag = every_of (tag_keeps text (tags_words gs ++ tags)) (length gs) (tag_keeps_lem text gs tags sound.tags) in
      rw (fit_clips, fit_tags, head_fits_lem text (head_read text) sound.heads, each-clip, each-tag, runs_adjoin_lem cs clips (length gs) adjoins)
