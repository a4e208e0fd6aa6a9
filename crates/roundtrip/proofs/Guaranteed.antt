-- What the reader guarantees of the list that it gives: by induction on its steps, head, clips and unknown tags are sound, part by part. Assumes nothing.
use Prim.Native.Nat.{ℕ, zero, suc, ◌<◌}
use mathlib.Core.List.{List, [], ◌∷◌}
use mathlib.Core.Option.{Option}
use native.Mathlib.Omega.{arith}
use lib.ListN.{take}
use Rattle.text.specs.Nom.{Span, bytes, is_none_of, is_multispace}
use Rattle.text.specs.BasicTags.{ExtTag, PlaylistType}
use Rattle.text.proofs.Ahead.{Stops}
use Rattle.lengths.specs.Duration.{ns, too_many_digits, extinf}
use Rattle.tables.specs.Layout.{length_limit}
use Rattle.tags.specs.Tags.{HeadTag, version, target_duration, media_sequence, discontinuity_sequence, typed, i_frames_only, independent_segments, end_list, ClipTag, timed, ranged, discontinuity, mapped, Tag, of_head, of_clip, unknown, comment, uri, left_out, Taken, took}
use Rattle.assembly.specs.Assembly.{Head, head_next, Segment, segment_next, State, begin, next, Clip, clip_in, tag_in, last_of, clips_of, tags_of, head_of, kept_tags}
use Rattle.media.specs.Calls.{steps_of, clips_read, tags_read}
use Rattle.text.specs.Spans.{shown}
use Rattle.records.proofs.Back.{All, all_append}
use Rattle.roundtrip.proofs.Said.{NumbersFit}
use Rattle.roundtrip.proofs.Gives.{If, Shows, Small}
use Rattle.roundtrip.proofs.Values.{SoundType, SoundExt, SoundMap}
use Rattle.roundtrip.proofs.Sound.{SoundHead, SoundClip, Sound, SoundTaken, Unread}
use Rattle.roundtrip.proofs.Again.{head_read}

-- ---- each of a list's front
pub all_take : {A : Type 0} (P : A → Type 0) (n : ℕ) (xs : List A) → All P xs → All P (take n xs)
unfolding All
all_take P zero xs h = tt
all_take P (suc n) [] h = tt
all_take P (suc n) (x ∷ xs) h = (h.0, all_take P n xs h.1)

module _ (text : List ℕ) where
  -- ---- a head
  pub record SoundParts (v : Option ℕ) (d m c : ℕ) (p : Option PlaylistType) : Type 0 where
    pub version : If Small v
    pub target : Small d
    pub sequence : Small m
    pub discontinuities : Small c
    pub type : If (SoundType text) p

  abbrev pub SoundHeadOf : Head → Type 0
  SoundHeadOf hd = SoundParts hd.version hd.target hd.sequence hd.discontinuities hd.type

  -- ---- the clip in the making, and one that a URI has ended
  pub record SoundSegment (s : Segment) : Type 0 where
    pub length : s.length < length_limit
    pub title : If (Shows (is_none_of (bytes "\r\n,")) text) s.title
    pub range : If NumbersFit s.range
    pub map : If (SoundMap text) s.map

  abbrev pub SoundUri : Span → Type 0
  SoundUri u = Shows (is_none_of (bytes "\r\n")) text u × Stops is_multispace (shown text u)

  abbrev pub SoundClipOf : Clip → Type 0
  SoundClipOf c = SoundUri c.uri × SoundSegment c.segment

  -- ---- an unknown tag, with the place where it was read
  abbrev pub SoundTagOf : ExtTag → Type 0
  SoundTagOf x = SoundExt text x × ((at : ℕ) × Unread text at x)

  abbrev SoundState : State → Type 0
  SoundState s = SoundHeadOf s.head_of × SoundSegment s.segment_of

  begins_sound : SoundState begin
  begins_sound = (
    record { version = tt; target = omega arith; sequence = omega arith; discontinuities = omega arith; type = tt },
    record { length = omega arith; title = tt; range = tt; map = tt },
  )

  -- ---- one step
  head_next_lem : (h : Head) (t : HeadTag) → SoundHeadOf h → SoundHead text t → SoundHeadOf (head_next h t)
  head_next_lem hd (version x) h k = record { version = k; target = h.target; sequence = h.sequence; discontinuities = h.discontinuities; type = h.type }
  head_next_lem hd (target_duration x) h k = record { version = h.version; target = k; sequence = h.sequence; discontinuities = h.discontinuities; type = h.type }
  head_next_lem hd (media_sequence x) h k = record { version = h.version; target = h.target; sequence = k; discontinuities = h.discontinuities; type = h.type }
  head_next_lem hd (discontinuity_sequence x) h k = record { version = h.version; target = h.target; sequence = h.sequence; discontinuities = k; type = h.type }
  head_next_lem hd (typed x) h k = record { version = h.version; target = h.target; sequence = h.sequence; discontinuities = h.discontinuities; type = k }
  head_next_lem hd i_frames_only h k = h
  head_next_lem hd independent_segments h k = h
  head_next_lem hd end_list h k = h

  segment_next_lem : (s : Segment) (t : ClipTag) → SoundSegment s → SoundClip text t → SoundSegment (segment_next s t)
  segment_next_lem s (timed (extinf (ns x) y)) h k = record { length = k.0; title = k.1; range = h.range; map = h.map }
  segment_next_lem s (timed (extinf too_many_digits y)) h k = h
  segment_next_lem s (ranged x) h k = record { length = h.length; title = h.title; range = k; map = h.map }
  segment_next_lem s discontinuity h k = record { length = h.length; title = h.title; range = h.range; map = h.map }
  segment_next_lem s (mapped x) h k = record { length = h.length; title = h.title; range = h.range; map = k }

  state_next : (s : State) (at : ℕ) (t : Tag) → SoundState s → Sound text at t → SoundState (next s t)
  unfolding next
  state_next s at (of_head t) k q = (head_next_lem s.head_of t k.0 q, k.1)
  state_next s at (of_clip t) k q = (k.0, segment_next_lem s.segment_of t k.1 q)
  state_next s at (unknown t) k q = k
  state_next s at (comment t) k q = k
  state_next s at (uri u) k q = (k.0, begins_sound.1)
  state_next s at (left_out x) k q = k

  clip_in_lem : (s : State) (at : ℕ) (t : Tag) → SoundState s → Sound text at t → All SoundClipOf (clip_in s t)
  unfolding All
  clip_in_lem s at (of_head t) k q = tt
  clip_in_lem s at (of_clip t) k q = tt
  clip_in_lem s at (unknown t) k q = tt
  clip_in_lem s at (comment t) k q = tt
  clip_in_lem s at (uri u) k q = ((q, k.1), tt)
  clip_in_lem s at (left_out x) k q = tt

  tag_in_lem : (at : ℕ) (t : Tag) → Sound text at t → All SoundTagOf (tag_in t)
  unfolding All
  tag_in_lem at (of_head t) q = tt
  tag_in_lem at (of_clip t) q = tt
  tag_in_lem at (unknown t) q = ((q.0, (at, q.1)), tt)
  tag_in_lem at (comment t) q = tt
  tag_in_lem at (uri u) q = tt
  tag_in_lem at (left_out x) q = tt

  -- ---- the steps
  last_sound : (s : State) (ts : List Taken) → SoundState s → All (SoundTaken text) ts → SoundState (last_of s ts)
  unfolding last_of All
  last_sound s [] k h = k
  last_sound s (took at t ∷ ts) k h = last_sound (next s t) ts (state_next s at t k h.0.0) h.1

  clips_sound : (s : State) (ts : List Taken) → SoundState s → All (SoundTaken text) ts → All SoundClipOf (clips_of s ts)
  unfolding clips_of All
  clips_sound s [] k h = tt
  clips_sound s (took at t ∷ ts) k h =
      all_append SoundClipOf (clip_in s t) (clips_of (next s t) ts) (clip_in_lem s at t k h.0.0) (clips_sound (next s t) ts (state_next s at t k h.0.0) h.1)

  tags_sound : (ts : List Taken) → All (SoundTaken text) ts → All SoundTagOf (tags_of ts)
  unfolding tags_of All
  tags_sound [] h = tt
  tags_sound (took at t ∷ ts) h = all_append SoundTagOf (tag_in t) (tags_of ts) (tag_in_lem at t h.0.0) (tags_sound ts h.1)

  head_of_lem : (s : State) → SoundState s → SoundHeadOf (head_of s)
  head_of_lem s k = k.0

  -- ---- the list
  pub record SoundList : Type 0 where
    pub heads : SoundHeadOf (head_read text)
    pub clips : All SoundClipOf (clips_read text)
    pub tags : All SoundTagOf (tags_read text)

  pub list_sound : All (SoundTaken text) (steps_of text) → SoundList
  unfolding clips_read tags_read
  list_sound h =
      record {
        heads = head_of_lem (last_of begin (steps_of text)) (last_sound begin (steps_of text) begins_sound h);
        clips = clips_sound begin (steps_of text) begins_sound h;
        tags = all_take SoundTagOf (kept_tags (last_of begin (steps_of text))) (tags_of (steps_of text)) (tags_sound (steps_of text) h);
      }
