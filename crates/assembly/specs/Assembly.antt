-- parser.rs, `media_playlist_from_tags`: what the tags that were taken make of a playlist, tag after tag. Assumes nothing.
use Rattle.std.specs.Prelude.{ℕ, ◌+◌, Bool, true, false, List, [], ◌∷◌, ◌++◌}
use Rattle.std.proofs.Math.Option.{Option, none, some}
use Rattle.text.specs.Nom.{Span}
use Rattle.text.specs.Util.{ByteRange}
use Rattle.text.specs.BasicTags.{ExtTag, PlaylistType}
use Rattle.attributes.specs.ExtMap.{Map}
use Rattle.lengths.specs.Duration.{ns, too_many_digits, extinf}
use Rattle.tags.specs.Tags.{HeadTag, version, target_duration, media_sequence, discontinuity_sequence, typed, i_frames_only, independent_segments, end_list, ClipTag, timed, ranged, discontinuity, mapped, Tag, of_head, of_clip, unknown, comment, uri, left_out, Taken, took}

-- ---- the head: "version, present or not; target, media sequence and discontinuity sequence, 0 if never read; playlist type, absent, EVENT, VOD or
-- another text's span; the marks end, I-frames only, independent"
pub record Head : Type 0 where
  pub version : Option ℕ
  pub target : ℕ
  pub sequence : ℕ
  pub discontinuities : ℕ
  pub type : Option PlaylistType
  pub ended : Bool
  pub i_frames : Bool
  pub independent : Bool

abbrev pub head : Option ℕ → ℕ → ℕ → ℕ → Option PlaylistType → Bool → Bool → Bool → Head
head v d m c p e i n = record { version = v; target = d; sequence = m; discontinuities = c; type = p; ended = e; i_frames = i; independent = n }

-- MediaPlaylist::default()
abbrev pub empty_head : Head
empty_head = head none 0 0 0 none false false false

-- "Of a repeated tag the last holds."
abbrev pub head_next : Head → HeadTag → Head
head_next h (version x) = head (some x) h.target h.sequence h.discontinuities h.type h.ended h.i_frames h.independent
head_next h (target_duration x) = head h.version x h.sequence h.discontinuities h.type h.ended h.i_frames h.independent
head_next h (media_sequence x) = head h.version h.target x h.discontinuities h.type h.ended h.i_frames h.independent
head_next h (discontinuity_sequence x) = head h.version h.target h.sequence x h.type h.ended h.i_frames h.independent
head_next h (typed x) = head h.version h.target h.sequence h.discontinuities (some x) h.ended h.i_frames h.independent
head_next h end_list = head h.version h.target h.sequence h.discontinuities h.type true h.i_frames h.independent
head_next h i_frames_only = head h.version h.target h.sequence h.discontinuities h.type h.ended true h.independent
head_next h independent_segments = head h.version h.target h.sequence h.discontinuities h.type h.ended h.i_frames true

-- ---- the clip in the making: length in ns, title, range, discontinuity, map
pub record Segment : Type 0 where
  pub length : ℕ
  pub title : Option Span
  pub range : Option ByteRange
  pub discontinuity : Bool
  pub map : Option Map

abbrev pub segment : ℕ → Option Span → Option ByteRange → Bool → Option Map → Segment
segment l t r d m = record { length = l; title = t; range = r; discontinuity = d; map = m }

-- MediaSegment::empty(): "a missing EXTINF is length 0, no title"
abbrev pub empty_segment : Segment
empty_segment = segment 0 none none false none

abbrev pub segment_next : Segment → ClipTag → Segment
segment_next s (timed (extinf (ns x) title)) = segment x title s.range s.discontinuity s.map
-- (refused by 6)
segment_next s (timed (extinf too_many_digits title)) = s
segment_next s (ranged x) = segment s.length s.title (some x) s.discontinuity s.map
segment_next s discontinuity = segment s.length s.title s.range true s.map
segment_next s (mapped x) = segment s.length s.title s.range s.discontinuity (some x)

-- ---- what is counted: clips so far, unknown tags of these, unknown tags since
pub record Counts : Type 0 where
  pub clips : ℕ
  pub kept : ℕ
  pub since : ℕ

abbrev pub counts : ℕ → ℕ → ℕ → Counts
counts c f p = record { clips = c; kept = f; since = p }

-- ---- the state: head, clip in the making, counts
pub record State : Type 0 where
  pub head_of : Head
  pub segment_of : Segment
  pub counts_of : Counts

abbrev pub state : Head → Segment → ℕ → ℕ → ℕ → State
state h s c f p = record { head_of = h; segment_of = s; counts_of = counts c f p }

abbrev pub begin : State
begin = state empty_head empty_segment 0 0 0

-- one turn of `while let Some(tag) = tags.pop()`, part by part
abbrev pub head_after : Head → Tag → Head
head_after h (of_head t) = head_next h t
head_after h (of_clip t) = h
head_after h (unknown t) = h
head_after h (comment t) = h
head_after h (uri u) = h
head_after h (left_out t) = h

abbrev pub segment_after : Segment → Tag → Segment
segment_after s (of_head t) = s
segment_after s (of_clip t) = segment_next s t
segment_after s (unknown t) = s
segment_after s (comment t) = s
segment_after s (uri u) = empty_segment
segment_after s (left_out t) = s

abbrev pub counts_after : Counts → Tag → Counts
counts_after c (of_head t) = c
counts_after c (of_clip t) = c
counts_after c (unknown t) = counts c.clips c.kept (c.since + 1)
counts_after c (comment t) = c
counts_after c (uri u) = counts (c.clips + 1) (c.kept + c.since) 0
counts_after c (left_out t) = c

unfoldable pub next : State → Tag → State
next s t = record { head_of = head_after s.head_of t; segment_of = segment_after s.segment_of t; counts_of = counts_after s.counts_of t }

-- "A URI ends a clip, which takes the length and title of the latest EXTINF, the latest range and map, discontinuity and all unknown tags since the URI
-- before": its URI, what was in the making, its first unknown tag and how many
pub record Clip : Type 0 where
  pub uri : Span
  pub segment : Segment
  pub first_tag : ℕ
  pub tag_count : ℕ

abbrev pub clip : Span → Segment → ℕ → ℕ → Clip
clip u s f n = record { uri = u; segment = s; first_tag = f; tag_count = n }

abbrev pub clip_in : State → Tag → List Clip
clip_in s (of_head t) = []
clip_in s (of_clip t) = []
clip_in s (unknown t) = []
clip_in s (comment t) = []
clip_in s (uri u) = clip u s.segment_of s.counts_of.kept s.counts_of.since ∷ []
clip_in s (left_out t) = []

abbrev pub tag_in : Tag → List ExtTag
tag_in (of_head t) = []
tag_in (of_clip t) = []
tag_in (unknown t) = t ∷ []
tag_in (comment t) = []
tag_in (uri u) = []
tag_in (left_out t) = []

-- ---- a whole reading
unfoldable pub last_of : State → List Taken → State
last_of s [] = s
last_of s (took at t ∷ ts) = last_of (next s t) ts

unfoldable pub clips_of : State → List Taken → List Clip
clips_of s [] = []
clips_of s (took at t ∷ ts) = clip_in s t ++ clips_of (next s t) ts

unfoldable pub tags_of : List Taken → List ExtTag
tags_of [] = []
tags_of (took at t ∷ ts) = tag_in t ++ tags_of ts

-- ---- its parts
abbrev pub head_of : State → Head
head_of s = s.head_of

abbrev pub segment_of : State → Segment
segment_of s = s.segment_of

abbrev pub counts_of : State → Counts
counts_of s = s.counts_of

abbrev pub clip_count : State → ℕ
clip_count s = s.counts_of.clips

-- "What follows the last URI is dropped, unknown tags too."
abbrev pub kept_tags : State → ℕ
kept_tags s = s.counts_of.kept
