-- What each value of the code says, in the words of the rules. Assumes nothing.
use Rattle.std.specs.Prelude.{ℕ, Option as Perhaps}
use Rattle.std.proofs.Math.Option.{Option}
use Rattle.text.specs.BasicTags.{PlaylistType}
use Rattle.text.specs.Answers.{span_of, perhaps, part_of}
use Rattle.leaves.specs.declared.basic_tags.PlaylistType as typeᵈ
use Rattle.leaves.specs.Answers.{type_of}
use Rattle.attributes.specs.declared.ext_map.Map as mapᵈ
use Rattle.attributes.specs.ExtMap.{Map}
use Rattle.attributes.specs.Answers.{opt_range_of, map_of}
use Rattle.assembly.specs.declared.head.Head as headᵈ
use Rattle.assembly.specs.declared.segment.Segment as segmentᵈ
use Rattle.assembly.specs.declared.Clip as clipᵈ
use Rattle.assembly.specs.Assembly.{Head, head, Segment, segment, Clip, clip}

abbrev pub version_of : Perhaps ℕ → Option ℕ
version_of = perhaps (λ v. v)

abbrev pub head_type_of : Perhaps typeᵈ.PlaylistType → Option PlaylistType
head_type_of = perhaps type_of

abbrev pub head_seen : headᵈ.Head → Head
head_seen h =
    head (version_of h.version) h.target_duration h.media_sequence h.discontinuity_sequence (head_type_of h.playlist_type) h.end_list h.i_frames_only
    h.independent_segments

abbrev pub segment_map_of : Perhaps mapᵈ.Map → Option Map
segment_map_of = perhaps map_of

abbrev pub segment_seen : segmentᵈ.Segment → Segment
segment_seen s = segment s.length (part_of s.title) (opt_range_of s.byte_range) s.discontinuity (segment_map_of s.map)

abbrev pub clip_seen : clipᵈ.Clip → Clip
clip_seen c = clip (span_of c.uri) (segment_seen c.segment) c.first c.count
