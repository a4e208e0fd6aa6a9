-- An assembly over what was said, with no text and no place in it, and the law that a reading's is that: its head, its clips and its counts follow from what
-- its steps say. By cases on a tag, then by induction on the steps with the tags so far as a prefix. Assumes nothing.
use Prim.Native.Nat.{ℕ, ◌+◌, ◌-◌, ◌≤◌}
use mathlib.Core.Path.{◌≡◌, refl, ap, sym, ◌∙◌}
use mathlib.Core.Bool.{Bool, true, false}
use mathlib.Core.List.{List, [], ◌∷◌, ◌++◌, map, append_assoc, append-nil, map-append}
use mathlib.Core.Option.{Option, none, some}
use native.Mathlib.Omega.{arith}
use lib.ListN.{length, take, drop, length-append, length-drop, length-map}
use lib.Seq.{drop-length, drop-append-le, take-append-add, take_at}
use Rattle.text.specs.Util.{ByteRange}
use Rattle.text.specs.BasicTags.{ExtTag, ext}
use Rattle.attributes.specs.ExtMap.{ext_map}
use Rattle.lengths.specs.Duration.{ns, extinf}
use Rattle.lengths.specs.Duration as lengths
use Rattle.tables.specs.Refusal.{Refusal, left_out_tag, too_many_digits}
use Rattle.tags.specs.Tags.{HeadTag, version, target_duration, media_sequence, discontinuity_sequence, typed, i_frames_only, independent_segments, end_list, ClipTag, timed, ranged, discontinuity, mapped, Tag, of_head, of_clip, unknown, comment, uri, left_out, Taken, took}
use Rattle.assembly.specs.Assembly.{Head, head_next, Segment, segment_next, State, begin, next, clip_in, tag_in, last_of, clips_of, tags_of, head_of, clip_count, kept_tags}
use Rattle.assembly.proofs.Counts.{met_tags, next_tags, count_clips}
use Rattle.text.specs.Spans.{shown_part}
use Rattle.records.specs.Same.{ShownType, ShownHead, head_shown, shown_head, ShownTag, tag_shown, shown_tag, ShownMap, map_shown, shown_map, ShownClip, clip_shown, shown_clip}
use Rattle.roundtrip.proofs.Said.{Said, says_version, says_target, says_sequence, says_discontinuity_sequence, says_type, says_iframes, says_independent, says_end, says_discontinuity, says_nothing, says_left_out, says_length, says_range, says_map, says_unknown, says_uri, head_says, clip_says, tag_says, taken_says}

-- ---- what a saying does
-- of the head
abbrev pub with_version : ℕ → ShownHead → ShownHead
with_version x (head_shown v d m c p e i n) = head_shown (some x) d m c p e i n

abbrev pub with_target : ℕ → ShownHead → ShownHead
with_target x (head_shown v d m c p e i n) = head_shown v x m c p e i n

abbrev pub with_sequence : ℕ → ShownHead → ShownHead
with_sequence x (head_shown v d m c p e i n) = head_shown v d x c p e i n

abbrev pub with_discontinuity_sequence : ℕ → ShownHead → ShownHead
with_discontinuity_sequence x (head_shown v d m c p e i n) = head_shown v d m x p e i n

abbrev pub with_type : ShownType → ShownHead → ShownHead
with_type x (head_shown v d m c p e i n) = head_shown v d m c (some x) e i n

abbrev pub with_end : ShownHead → ShownHead
with_end (head_shown v d m c p e i n) = head_shown v d m c p true i n

abbrev pub with_iframes : ShownHead → ShownHead
with_iframes (head_shown v d m c p e i n) = head_shown v d m c p e true n

abbrev pub with_independent : ShownHead → ShownHead
with_independent (head_shown v d m c p e i n) = head_shown v d m c p e i true

-- the clip in the making, its spans shown: length in ns, title, range, discontinuity, map
pub data Making : Type 0 where
  making : ℕ → Option (List ℕ) → Option ByteRange → Bool → Option ShownMap → Making

abbrev pub with_length : ℕ → Option (List ℕ) → Making → Making
with_length x y (making l t r d m) = making x y r d m

abbrev pub with_range : ByteRange → Making → Making
with_range x (making l t r d m) = making l t (some x) d m

abbrev pub with_discontinuity : Making → Making
with_discontinuity (making l t r d m) = making l t r true m

abbrev pub with_map : ShownMap → Making → Making
with_map x (making l t r d m) = making l t r d (some x)

-- it changes the head, or the clip in the making; it adds an unknown tag; it ends a clip; it does nothing; or it is refused
pub data Act : Type 0 where
  for_head : (ShownHead → ShownHead) → Act
  for_clip : (Making → Making) → Act
  adds : ShownTag → Act
  ends : List ℕ → Act
  nothing : Act
  refuses : Refusal → Act

abbrev pub act : Said → Act
act (says_version n) = for_head (with_version n)
act (says_target n) = for_head (with_target n)
act (says_sequence n) = for_head (with_sequence n)
act (says_discontinuity_sequence n) = for_head (with_discontinuity_sequence n)
act (says_type t) = for_head (with_type t)
act says_iframes = for_head with_iframes
act says_independent = for_head with_independent
act says_end = for_head with_end
act says_discontinuity = for_clip with_discontinuity
act says_nothing = nothing
act says_left_out = refuses left_out_tag
act (says_length (ns l) t) = for_clip (with_length l t)
act (says_length lengths.too_many_digits t) = refuses too_many_digits
act (says_range r) = for_clip (with_range r)
act (says_map u r) = for_clip (with_map (map_shown u r))
act (says_unknown name rest) = adds (tag_shown name rest)
act (says_uri u) = ends u

-- ---- the assembly
-- head, clip in the making, unknown tags of the clips so far, those since
pub data SaidState : Type 0 where
  said_state : ShownHead → Making → ℕ → List ShownTag → SaidState

abbrev pub empty_making : Making
empty_making = making 0 none none false none

abbrev pub begin_said : SaidState
begin_said = said_state (head_shown none 0 0 0 none false false false) empty_making 0 []

abbrev pub after : SaidState → Act → SaidState
after (said_state h s f gs) (for_head g) = said_state (g h) s f gs
after (said_state h s f gs) (for_clip g) = said_state h (g s) f gs
after (said_state h s f gs) (adds t) = said_state h s f (gs ++ (t ∷ []))
after (said_state h s f gs) (ends u) = said_state h empty_making (f + length gs) []
after (said_state h s f gs) nothing = said_state h s f gs
after (said_state h s f gs) (refuses r) = said_state h s f gs

abbrev pub clip_made : List ℕ → Making → ℕ → List ShownTag → ShownClip
clip_made u (making l t r d m) f gs = clip_shown u l t r d m f (length gs) gs

abbrev pub ended : SaidState → Act → List ShownClip
ended (said_state h s f gs) (for_head g) = []
ended (said_state h s f gs) (for_clip g) = []
ended (said_state h s f gs) (adds t) = []
ended (said_state h s f gs) (ends u) = clip_made u s f gs ∷ []
ended (said_state h s f gs) nothing = []
ended (said_state h s f gs) (refuses r) = []

abbrev pub next_said : SaidState → Said → SaidState
next_said s x = after s (act x)

-- the clip that a URI ends
abbrev pub clip_said : SaidState → Said → List ShownClip
clip_said s x = ended s (act x)

unfoldable pub last_said : SaidState → List Said → SaidState
last_said s [] = s
last_said s (x ∷ xs) = last_said (next_said s x) xs

-- in order
unfoldable pub clips_said : SaidState → List Said → List ShownClip
clips_said s [] = []
clips_said s (x ∷ xs) = clip_said s x ++ clips_said (next_said s x) xs

abbrev pub head_said : SaidState → ShownHead
head_said (said_state h s f gs) = h

abbrev pub kept_said : SaidState → ℕ
kept_said (said_state h s f gs) = f

-- ---- a reading's
abbrev pub shown_segment : List ℕ → Segment → Making
shown_segment text s = making s.length (shown_part text s.title) s.range s.discontinuity (shown_map text s.map)

-- what is kept stays kept
kept_next : (s : State) (t : Tag) → kept_tags s ≤ kept_tags (next s t)
unfolding next
kept_next s (of_head t) = omega arith
kept_next s (of_clip t) = omega arith
kept_next s (unknown t) = omega arith
kept_next s (comment t) = omega arith
kept_next s (uri u) = omega arith
kept_next s (left_out x) = omega arith

kept_last : (s : State) (ts : List Taken) → kept_tags s ≤ kept_tags (last_of s ts)
unfolding last_of
kept_last s [] = omega arith
kept_last s (took at t ∷ ts) = omega (arith, kept_next s t, kept_last (next s t) ts)

-- a clip's tags among those that are kept are those since the URI before
run : (pre xs : List ExtTag) (f p k : ℕ) → length pre ≡ f + p → f + p ≤ k → take p (drop f (take k (pre ++ xs))) ≡ drop f pre
run pre xs f p k e l =
    let c : k ≡ length pre + (k - length pre) = omega arith in
    let b : f ≤ length pre = omega arith in
    rw (c, take-append-add pre xs, drop-append-le f pre) (take_at (drop f pre) _ p (length-drop f pre ∙ omega arith))

module _ (text : List ℕ) where
  -- a state with its spans shown; `tags` are the tags so far
  abbrev pub shown_state : List ExtTag → State → SaidState
  shown_state tags s = said_state (shown_head text s.head_of) (shown_segment text s.segment_of) s.counts_of.kept (map (shown_tag text) (drop s.counts_of.kept tags))

  -- a tag of the head changes the head, and ends no clip
  head_says_lem : (h : Head) (t : HeadTag) (s : Making) (f : ℕ) (gs : List ShownTag)
      → (next_said (said_state (shown_head text h) s f gs) (head_says text t) ≡ said_state (shown_head text (head_next h t)) s f gs)
      × (clip_said (said_state (shown_head text h) s f gs) (head_says text t) ≡ [])
  head_says_lem hd (version x) s f gs = (refl, refl)
  head_says_lem hd (target_duration x) s f gs = (refl, refl)
  head_says_lem hd (media_sequence x) s f gs = (refl, refl)
  head_says_lem hd (discontinuity_sequence x) s f gs = (refl, refl)
  head_says_lem hd (typed x) s f gs = (refl, refl)
  head_says_lem hd i_frames_only s f gs = (refl, refl)
  head_says_lem hd independent_segments s f gs = (refl, refl)
  head_says_lem hd end_list s f gs = (refl, refl)

  -- a tag of a clip changes the clip in the making, and ends none
  clip_says_lem : (s : Segment) (t : ClipTag) (h : ShownHead) (f : ℕ) (gs : List ShownTag)
      → (next_said (said_state h (shown_segment text s) f gs) (clip_says text t) ≡ said_state h (shown_segment text (segment_next s t)) f gs)
      × (clip_said (said_state h (shown_segment text s) f gs) (clip_says text t) ≡ [])
  clip_says_lem s (timed (extinf (ns x) y)) h f gs = (refl, refl)
  clip_says_lem s (timed (extinf lengths.too_many_digits y)) h f gs = (refl, refl)
  clip_says_lem s (ranged x) h f gs = (refl, refl)
  clip_says_lem s discontinuity h f gs = (refl, refl)
  clip_says_lem s (mapped (ext_map u x y)) h f gs = (refl, refl)

  -- the tags since the URI before are those so far but those of the clips
  since : (pre : List ExtTag) (f p : ℕ) → length pre ≡ f + p → length (map (shown_tag text) (drop f pre)) ≡ p
  since pre f p e = rw (length-map, length-drop) (omega arith)

  next_said_lem : (pre : List ExtTag) (s : State) (t : Tag) → length pre ≡ met_tags s → shown_state (pre ++ tag_in t) (next s t) ≡ next_said (shown_state pre s) (tag_says text t)
  unfolding next
  next_said_lem pre s (of_head t) e = rw append-nil (sym (head_says_lem s.head_of t _ _ _).0)
  next_said_lem pre s (of_clip t) e = rw append-nil (sym (clip_says_lem s.segment_of t _ _ _).0)
  next_said_lem pre s (unknown (ext name rest)) e =
      let l : s.counts_of.kept ≤ length pre = omega arith in
      rw (drop-append-le s.counts_of.kept pre (ext name rest ∷ []) l, map-append)
  next_said_lem pre s (comment t) e = rw append-nil
  next_said_lem pre s (uri u) e = rw (append-nil, since pre s.counts_of.kept s.counts_of.since e, ← e, drop-length)
  next_said_lem pre s (left_out x) e = rw append-nil

  tags_so_far : (pre : List ExtTag) (s : State) (t : Tag) → length pre ≡ met_tags s → length (pre ++ tag_in t) ≡ met_tags (next s t)
  tags_so_far pre s t e = length-append pre (tag_in t) ∙ omega (arith, next_tags s t)

  pub last_said_lem : (pre : List ExtTag) (s : State) (ts : List Taken) → length pre ≡ met_tags s
      → shown_state (pre ++ tags_of ts) (last_of s ts) ≡ last_said (shown_state pre s) (map (taken_says text) ts)
  unfolding last_of tags_of last_said
  last_said_lem pre s [] e = rw append-nil
  last_said_lem pre s (took at t ∷ ts) e =
      rw (← append_assoc pre (tag_in t) (tags_of ts))
      (last_said_lem (pre ++ tag_in t) (next s t) ts (tags_so_far pre s t e)
      ∙ ap (λ (x : SaidState). last_said x (map (taken_says text) ts)) (next_said_lem pre s t e))

  clip_said_lem : (pre xs : List ExtTag) (s : State) (t : Tag) (k : ℕ) → length pre ≡ met_tags s → kept_tags (next s t) ≤ k
      → map (shown_clip text (take k (pre ++ xs))) (clip_in s t) ≡ clip_said (shown_state pre s) (tag_says text t)
  unfolding next
  clip_said_lem pre xs s (of_head t) k e l = sym (head_says_lem s.head_of t (shown_segment text s.segment_of) s.counts_of.kept (map (shown_tag text) (drop s.counts_of.kept pre))).1
  clip_said_lem pre xs s (of_clip t) k e l = sym (clip_says_lem s.segment_of t (shown_head text s.head_of) s.counts_of.kept (map (shown_tag text) (drop s.counts_of.kept pre))).1
  clip_said_lem pre xs s (unknown (ext name rest)) k e l = refl
  clip_said_lem pre xs s (comment t) k e l = refl
  clip_said_lem pre xs s (uri u) k e l = rw (run pre xs s.counts_of.kept s.counts_of.since k e l, since pre s.counts_of.kept s.counts_of.since e)
  clip_said_lem pre xs s (left_out x) k e l = refl

  pub clips_said_lem : (pre : List ExtTag) (s : State) (ts : List Taken) (k : ℕ) → length pre ≡ met_tags s → kept_tags (last_of s ts) ≤ k
      → map (shown_clip text (take k (pre ++ tags_of ts))) (clips_of s ts) ≡ clips_said (shown_state pre s) (map (taken_says text) ts)
  unfolding last_of clips_of tags_of clips_said
  clips_said_lem pre s [] k e l = refl
  clips_said_lem pre s (took at t ∷ ts) k e l =
      map-append (shown_clip text (take k (pre ++ (tag_in t ++ tags_of ts)))) (clip_in s t) (clips_of (next s t) ts)
      ∙ rw (
        clip_said_lem pre (tag_in t ++ tags_of ts) s t k e (omega (arith, kept_last (next s t) ts)),
        ← append_assoc pre (tag_in t) (tags_of ts),
        clips_said_lem (pre ++ tag_in t) (next s t) ts k (tags_so_far pre s t e) l,
        next_said_lem pre s t e,
      )

  head_shown_lem : (tags : List ExtTag) (s : State) → shown_head text (head_of s) ≡ head_said (shown_state tags s)
  head_shown_lem tags s = refl

  kept_shown : (tags : List ExtTag) (s : State) → kept_tags s ≡ kept_said (shown_state tags s)
  kept_shown tags s = refl

-- a reading from the start: all that is shown of it follows from what its steps say
pub record Assembled (text : List ℕ) (ts : List Taken) : Type 0 where
  pub head : shown_head text (head_of (last_of begin ts)) ≡ head_said (last_said begin_said (map (taken_says text) ts))
  pub clips : map (shown_clip text (take (kept_tags (last_of begin ts)) (tags_of ts))) (clips_of begin ts) ≡ clips_said begin_said (map (taken_says text) ts)
  pub count : clip_count (last_of begin ts) ≡ length (clips_said begin_said (map (taken_says text) ts))
  pub kept : kept_tags (last_of begin ts) ≡ kept_said (last_said begin_said (map (taken_says text) ts))

pub assembled : (text : List ℕ) (ts : List Taken) → Assembled text ts
assembled text ts =
    let l = last_said_lem text [] begin ts refl in
    let cs = clips_said_lem text [] begin ts (kept_tags (last_of begin ts)) refl (omega arith) in
    record {
      head = head_shown_lem text (tags_of ts) (last_of begin ts) ∙ ap head_said l;
      clips = cs;
      count = omega (arith, count_clips begin ts, rw length-map at (ap length cs));
      kept = kept_shown text (tags_of ts) (last_of begin ts) ∙ ap kept_said l;
    }
