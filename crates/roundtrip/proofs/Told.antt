-- The lines of a list say the list: head, clips with their unknown tags, and no more. By cases on each part of a head and of a clip, then by induction on
-- the clips. Assumes nothing.
use Prim.Native.Nat.{ℕ, zero, suc, ◌+◌, ◌≤◌}
use mathlib.Core.Path.{◌≡◌, refl, ap, sym, ◌∙◌}
use mathlib.Core.Bool.{Bool, true, false}
use mathlib.Core.List.{List, [], ◌∷◌, ◌++◌, map, append_assoc, append-nil, map-append}
use mathlib.Core.Option.{Option, none, some}
use native.Mathlib.Omega.{arith}
use lib.ListN.{length, take, drop, length-drop, length-map}
use lib.Seq.{length-take-le}
use Rattle.text.specs.Nom.{Span}
use Rattle.text.specs.Util.{ByteRange}
use Rattle.text.specs.BasicTags.{ExtTag, ext, PlaylistType, event, vod, other}
use Rattle.attributes.specs.ExtMap.{Map, ext_map}
use Rattle.tags.specs.Tags.{Tag, of_head, of_clip, unknown, comment, uri, left_out, Taken, took}
use Rattle.assembly.specs.Assembly.{Head, head, State, begin, next, Clip, clip_in, last_of, clips_of, tags_of, kept_tags}
use Rattle.assembly.proofs.Counts.{kept}
use Rattle.text.specs.Spans.{shown, shown_part, same_all}
use Rattle.records.specs.Same.{other_shown, shown_type_if, ShownHead, head_shown, shown_head, ShownTag, shown_tag, ShownMap, shown_map, ShownClip, clip_shown, shown_clip}
use Rattle.playlist.specs.Lines.{Line, header_line, independent_segments_line, i_frames_only_line, discontinuity_line, end_list_line, version_line, target_duration_line, media_sequence_line, discontinuity_sequence_line, playlist_type_line, byte_range_line, extinf_line, uri_line, line_if, line_where, line_unless_zero, type_text, head_lines, map_line_of, tag_line_of, title_text, clip_lines, clips_lines, end_lines, playlist_lines}
use Rattle.roundtrip.proofs.Said.{Said, Some, type_says, title_says, line_says}
use Rattle.roundtrip.proofs.Assembled.{Making, making, SaidState, said_state, empty_making, begin_said, next_said, clip_said, last_said, clips_said}

-- ---- what is asked of a list
-- "unknown runs adjoin from 0 and use all tags": from tag f on, these clips' runs use the tags up to `total`
abbrev pub Adjoin : ℕ → List Clip → ℕ → Type 0
Adjoin f [] total = f ≡ total
Adjoin f (c ∷ cs) total = (c.first_tag ≡ f) × Adjoin (f + c.tag_count) cs total

module _ (text : List ℕ) where
  -- a title that is there shows at least one byte: one of none would say the same as no title
  abbrev pub TitleSome : Option Span → Type 0
  TitleSome none = Unit {0}
  TitleSome (some s) = Some (shown text s)

  abbrev pub TitlesSome : List Clip → Type 0
  TitlesSome [] = Unit {0}
  TitlesSome (c ∷ cs) = TitleSome c.segment.title × TitlesSome cs

  -- another type's text says another type
  abbrev pub OtherSaid : Option PlaylistType → Type 0
  OtherSaid none = Unit {0}
  OtherSaid (some event) = Unit {0}
  OtherSaid (some vod) = Unit {0}
  OtherSaid (some (other s)) = type_says (shown text s) ≡ other_shown (shown text s)

  abbrev pub TypeOther : Head → Type 0
  TypeOther h = OtherSaid h.type

-- ---- the lines behind the header
unfoldable pub body_lines : List ℕ → Head → List Clip → List ExtTag → List Line
body_lines text h cs gs = drop 1 (head_lines text h) ++ (clips_lines text gs cs ++ end_lines h)

pub header_first : (text : List ℕ) (h : Head) (cs : List Clip) (gs : List ExtTag) → playlist_lines text h cs gs ≡ header_line ∷ body_lines text h cs gs
unfolding playlist_lines head_lines body_lines
header_first text hd cs gs = refl

-- ---- what lines tell: from one state to another, and the clips that they end
pub record Tells (a : SaidState) (ls : List Line) (cs : List ShownClip) (b : SaidState) : Type 0 where
  pub last : last_said a (map line_says ls) ≡ b
  pub clips : clips_said a (map line_says ls) ≡ cs

last_append : (a : SaidState) (xs ys : List Said) → last_said a (xs ++ ys) ≡ last_said (last_said a xs) ys
unfolding last_said
last_append a [] ys = refl
last_append a (x ∷ xs) ys = last_append (next_said a x) xs ys

clips_append : (a : SaidState) (xs ys : List Said) → clips_said a (xs ++ ys) ≡ clips_said a xs ++ clips_said (last_said a xs) ys
unfolding last_said clips_said
clips_append a [] ys = refl
clips_append a (x ∷ xs) ys = ap (λ (cs : List ShownClip). clip_said a x ++ cs) (clips_append (next_said a x) xs ys) ∙ sym (append_assoc (clip_said a x) _ _)

tells_append : {a b c : SaidState} {xs ys : List Line} {cs ds : List ShownClip} → Tells a xs cs b → Tells b ys ds c → Tells a (xs ++ ys) (cs ++ ds) c
tells_append {a} {b} {c} {xs} {ys} h k =
    record {
      last = rw (map-append line_says xs ys, last_append a, h.last) k.last;
      clips = rw (map-append line_says xs ys, clips_append a, h.last, h.clips, k.clips);
    }

-- one line
tells_line : {a b : SaidState} {cs : List ShownClip} (l : Line) → next_said a (line_says l) ≡ b → clip_said a (line_says l) ≡ cs → Tells a (l ∷ []) cs b
unfolding last_said clips_said
tells_line l h k = record { last = h; clips = append-nil _ ∙ k }

-- a line that is there or not: `at v` is the state where v was told, `at none` that where nothing was
tells_if : {A : Type 0} (line : A → Line) (at : Option A → SaidState)
    → ((x : A) → next_said (at none) (line_says (line x)) ≡ at (some x)) → ((x : A) → clip_said (at none) (line_says (line x)) ≡ [])
    → (v : Option A) → Tells (at none) (line_if line v) [] (at v)
unfolding last_said clips_said
tells_if line at h k none = record { last = refl; clips = refl }
tells_if line at h k (some x) = tells_line (line x) (h x) (k x)

-- the same of a mark
tells_where : (line : Line) (at : Bool → SaidState) → next_said (at false) (line_says line) ≡ at true → clip_said (at false) (line_says line) ≡ []
    → (b : Bool) → Tells (at false) (line_where line b) [] (at b)
unfolding last_said clips_said
tells_where line at h k false = record { last = refl; clips = refl }
tells_where line at h k true = tells_line line h k

-- and of a number that is 0 if it is not told
tells_unless_zero : (line : ℕ → Line) (at : ℕ → SaidState)
    → ((x : ℕ) → next_said (at 0) (line_says (line x)) ≡ at x) → ((x : ℕ) → clip_said (at 0) (line_says (line x)) ≡ [])
    → (n : ℕ) → Tells (at 0) (line_unless_zero line n) [] (at n)
unfolding last_said clips_said
tells_unless_zero line at h k zero = record { last = refl; clips = refl }
tells_unless_zero line at h k (suc n) = tells_line (line (suc n)) (h (suc n)) (k (suc n))

-- ---- the head
-- all but the end, which is told last
abbrev unended : Head → Head
unended hd = head hd.version hd.target hd.sequence hd.discontinuities hd.type false hd.i_frames hd.independent

-- before any clip
abbrev only : ShownHead → SaidState
only h = said_state h empty_making 0 []

module _ (text : List ℕ) where
  tells_type : (v : Option ℕ) (d m c : ℕ) (p : Option PlaylistType) (e i n : Bool) → TypeOther text (head v d m c p e i n)
      → Tells (only (head_shown v d m c none e i n)) (line_if (λ t. playlist_type_line (type_text text t)) p) [] (only (head_shown v d m c (shown_type_if text p) e i n))
  unfolding last_said clips_said type_says same_all
  tells_type v d m c none e i n h = record { last = refl; clips = refl }
  tells_type v d m c (some event) e i n h = record { last = refl; clips = refl }
  tells_type v d m c (some vod) e i n h = record { last = refl; clips = refl }
  tells_type v d m c (some (other s)) e i n h = record { last = rw h; clips = refl }

  tells_head : (h : Head) → TypeOther text h → Tells begin_said (drop 1 (head_lines text h)) [] (only (shown_head text (unended h)))
  unfolding head_lines
  tells_head hd h =
      tells_append (tells_if version_line (λ x. only (head_shown x 0 0 0 none false false false)) (λ x. refl) (λ x. refl) hd.version)
      (tells_append (tells_where independent_segments_line (λ x. only (head_shown hd.version 0 0 0 none false false x)) refl refl hd.independent)
      (tells_append (tells_line (target_duration_line hd.target) refl refl)
      (tells_append (tells_unless_zero media_sequence_line (λ x. only (head_shown hd.version hd.target x 0 none false false hd.independent)) (λ x. refl) (λ x. refl) hd.sequence)
      (tells_append (tells_unless_zero discontinuity_sequence_line (λ x. only (head_shown hd.version hd.target hd.sequence x none false false hd.independent)) (λ x. refl) (λ x. refl) hd.discontinuities)
      (tells_append (tells_type hd.version hd.target hd.sequence hd.discontinuities hd.type false false hd.independent h)
      (tells_where i_frames_only_line (λ x. only (head_shown hd.version hd.target hd.sequence hd.discontinuities (shown_type_if text hd.type) false x hd.independent)) refl refl hd.i_frames))))))

-- ---- the clips
pub adjoin_all : (f : ℕ) (cs : List Clip) (total : ℕ) → Adjoin f cs total → f ≤ total
adjoin_all f [] total h = omega arith
adjoin_all f (c ∷ cs) total h = omega (arith, adjoin_all (f + c.tag_count) cs total h.1)

module _ (text : List ℕ) where
  title_says_lem : (t : Option Span) → TitleSome text t → title_says (title_text text t) ≡ shown_part text t
  title_says_lem none h = refl
  title_says_lem (some s) h = go (shown text s) h
    where
      go : (b : List ℕ) → Some b → title_says b ≡ some b
      go [] h = absurd h
      go (x ∷ b) h = refl

  tells_tags : (ts : List ExtTag) (h : ShownHead) (s : Making) (f : ℕ) (gs : List ShownTag)
      → Tells (said_state h s f gs) (map (tag_line_of text) ts) [] (said_state h s f (gs ++ map (shown_tag text) ts))
  unfolding last_said clips_said
  tells_tags [] h s f gs = record { last = rw append-nil; clips = refl }
  tells_tags (ext name rest ∷ ts) h s f gs =
      let k = tells_tags ts h s f (gs ++ (shown_tag text (ext name rest) ∷ [])) in
      record { last = k.last ∙ rw append_assoc; clips = k.clips }

  tells_map : (m : Option Map) (h : ShownHead) (f : ℕ) → Tells (said_state h empty_making f []) (line_if (map_line_of text) m) [] (said_state h (making 0 none none false (shown_map text m)) f [])
  unfolding last_said clips_said
  tells_map none h f = record { last = refl; clips = refl }
  tells_map (some (ext_map u r l)) h f = record { last = refl; clips = refl }

  -- the last two lines of a clip
  tells_uri : (h : ShownHead) (u b : List ℕ) (l : ℕ) (t : Option (List ℕ)) (r : Option ByteRange) (d : Bool) (m : Option ShownMap) (f n : ℕ) (gs : List ShownTag)
      → title_says b ≡ t → length gs ≡ n
      → Tells (said_state h (making 0 none r d m) f gs) (extinf_line l b ∷ uri_line u ∷ []) (clip_shown u l t r d m f n gs ∷ []) (said_state h empty_making (f + n) [])
  unfolding last_said clips_said
  tells_uri h u b l t r d m f n gs e k = record { last = rw k; clips = rw (e, k) }

  -- a clip's lines, from where the clip before ended
  tells_clip : (h : ShownHead) (c : Clip) (tags : List ExtTag)
      → TitleSome text c.segment.title → c.first_tag + c.tag_count ≤ length tags
      → Tells (said_state h empty_making c.first_tag []) (clip_lines text tags c) (shown_clip text tags c ∷ []) (said_state h empty_making (c.first_tag + c.tag_count) [])
  unfolding clip_lines
  tells_clip h c tags e fits =
      let s = c.segment in
      let f = c.first_tag in
      let m = shown_map text s.map in
      let run = take c.tag_count (drop f tags) in
      let k : length (map (shown_tag text) run) ≡ c.tag_count = length-map run (shown_tag text) ∙ length-take-le c.tag_count (drop f tags) (rw length-drop (omega arith)) in
      tells_append (tells_map s.map h f)
      (tells_append (tells_if byte_range_line (λ x. said_state h (making 0 none x false m) f []) (λ x. refl) (λ x. refl) s.range)
      (tells_append (tells_where discontinuity_line (λ x. said_state h (making 0 none s.range x m) f []) refl refl s.discontinuity)
      (tells_append (tells_tags run h (making 0 none s.range s.discontinuity m) f [])
      (tells_uri h (shown text c.uri) (title_text text s.title) s.length (shown_part text s.title) s.range s.discontinuity m f c.tag_count (map (shown_tag text) run) (title_says_lem s.title e) k))))

  tells_clips : (h : ShownHead) (tags : List ExtTag) (f : ℕ) (cs : List Clip) → TitlesSome text cs → Adjoin f cs (length tags)
      → Tells (said_state h empty_making f []) (clips_lines text tags cs) (map (shown_clip text tags) cs) (said_state h empty_making (length tags) [])
  unfolding clips_lines last_said clips_said
  tells_clips h tags f [] e a = record { last = rw a; clips = refl }
  tells_clips h tags f (c ∷ cs) e a =
      let next = c.first_tag + c.tag_count in
      let b : Adjoin next cs (length tags) = rw a.0 a.1 in
      rw (← a.0) (tells_append (tells_clip h c tags e.0 (adjoin_all next cs (length tags) b)) (tells_clips h tags next cs e.1 b))

-- ---- the whole
tells_end : (h : Head) (text : List ℕ) (f : ℕ) → Tells (said_state (shown_head text (unended h)) empty_making f []) (end_lines h) [] (said_state (shown_head text h) empty_making f [])
tells_end hd text f = tells_where end_list_line (λ x. said_state (head_shown hd.version hd.target hd.sequence hd.discontinuities (shown_type_if text hd.type) x hd.i_frames hd.independent) empty_making f []) refl refl hd.ended

pub told : (text : List ℕ) (h : Head) (cs : List Clip) (gs : List ExtTag) → TypeOther text h → TitlesSome text cs → Adjoin 0 cs (length gs)
    → Tells begin_said (body_lines text h cs gs) (map (shown_clip text gs) cs) (said_state (shown_head text h) empty_making (length gs) [])
unfolding body_lines
told text h cs gs other-type some-titles adjoin =
    let t = tells_append (tells_head text h other-type) (tells_append (tells_clips text (shown_head text (unended h)) gs 0 cs some-titles adjoin) (tells_end h text (length gs))) in
    record { last = t.last; clips = t.clips ∙ append-nil _ }

-- ---- a reading's clips adjoin
adjoin_next : (s : State) (t : Tag) (cs : List Clip) (total : ℕ) → Adjoin (kept_tags (next s t)) cs total → Adjoin (kept_tags s) (clip_in s t ++ cs) total
unfolding next
adjoin_next s (of_head t) cs total a = a
adjoin_next s (of_clip t) cs total a = a
adjoin_next s (unknown t) cs total a = a
adjoin_next s (comment t) cs total a = a
adjoin_next s (uri u) cs total a = (refl, a)
adjoin_next s (left_out x) cs total a = a

adjoin_steps : (s : State) (ts : List Taken) → Adjoin (kept_tags s) (clips_of s ts) (kept_tags (last_of s ts))
unfolding clips_of last_of
adjoin_steps s [] = refl
adjoin_steps s (took at t ∷ ts) = adjoin_next s t (clips_of (next s t) ts) (kept_tags (last_of (next s t) ts)) (adjoin_steps (next s t) ts)

-- all that are kept are there
pub kept_length : (ts : List Taken) → length (take (kept_tags (last_of begin ts)) (tags_of ts)) ≡ kept_tags (last_of begin ts)
kept_length ts = length-take-le (kept_tags (last_of begin ts)) (tags_of ts) (omega (arith, kept begin ts))

pub clips_adjoin : (ts : List Taken) → Adjoin 0 (clips_of begin ts) (length (take (kept_tags (last_of begin ts)) (tags_of ts)))
clips_adjoin ts = rw (kept_length ts) (adjoin_steps begin ts)
