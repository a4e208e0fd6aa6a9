-- How many bytes a head, a clip and unknown tags take, told by their numbers and spans: the text is not asked. A line's fixed bytes are those of the line with
-- nothing of the text in it. Assumes nothing.
use Rattle.std.specs.Prelude.{ℕ, ◌+◌, ◌-◌, List, [], ◌∷◌, length}
use Rattle.std.proofs.Math.Option.{Option, none, some}
use Rattle.text.specs.Nom.{Span, span, bytes}
use Rattle.text.specs.Util.{ByteRange}
use Rattle.text.specs.BasicTags.{ExtTag, ext, PlaylistType, event, vod, other}
use Rattle.attributes.specs.ExtMap.{Map, ext_map}
use Rattle.tables.specs.Table.{listed}
use Rattle.assembly.specs.Assembly.{Head, Clip}
use Rattle.records.specs.Records.{clips_at, tag_at}
use Rattle.playlist.specs.Lines.{header_line, version_line, independent_segments_line, target_duration_line, media_sequence_line, discontinuity_sequence_line, playlist_type_line, i_frames_only_line, map_line, byte_range_line, discontinuity_line, unknown_line, extinf_line, uri_line, range_bytes, line_bytes, line_if, line_where, line_unless_zero, lines_text, end_lines}

abbrev pub span_size : Span → ℕ
span_size (span a b) = b - a

-- a part and a range that may be missing, with k bytes around them
abbrev pub part_size : ℕ → Option Span → ℕ
part_size k none = 0
part_size k (some s) = k + span_size s

abbrev pub range_size : ℕ → Option ByteRange → ℕ
range_size k none = 0
range_size k (some r) = k + length (range_bytes r)

abbrev pub type_size : Option PlaylistType → ℕ
type_size none = 0
type_size (some event) = length (line_bytes (playlist_type_line (bytes "EVENT")))
type_size (some vod) = length (line_bytes (playlist_type_line (bytes "VOD")))
type_size (some (other s)) = length (line_bytes (playlist_type_line [])) + span_size s

unfoldable pub head_size : Head → ℕ
head_size hd =
    length (line_bytes header_line)
    + length (lines_text (line_if version_line hd.version))
    + length (lines_text (line_where independent_segments_line hd.independent))
    + length (line_bytes (target_duration_line hd.target))
    + length (lines_text (line_unless_zero media_sequence_line hd.sequence))
    + length (lines_text (line_unless_zero discontinuity_sequence_line hd.discontinuities))
    + type_size hd.type
    + length (lines_text (line_where i_frames_only_line hd.i_frames))

abbrev pub map_size : Option Map → ℕ
map_size none = 0
map_size (some (ext_map u r l)) = length (line_bytes (map_line [] r)) + span_size u

abbrev pub tag_size : ExtTag → ℕ
tag_size (ext name rest) = length (line_bytes (unknown_line [] none)) + span_size name + part_size 1 rest

-- a clip without its unknown tags
unfoldable pub clip_size : Clip → ℕ
clip_size c =
    let s = c.segment in
    map_size s.map
    + length (lines_text (line_if byte_range_line s.range))
    + length (lines_text (line_where discontinuity_line s.discontinuity))
    + (length (line_bytes (extinf_line s.length [])) + part_size 0 s.title)
    + (length (line_bytes (uri_line [])) + span_size c.uri)

-- unknown tags; clips with those of their runs; the whole
unfoldable pub tags_size : List ExtTag → ℕ
tags_size [] = 0
tags_size (t ∷ ts) = tag_size t + tags_size ts

abbrev pub full_size : List ℕ → Clip → ℕ
full_size tags c = clip_size c + tags_size (listed (tag_at tags) c.first_tag c.tag_count)

unfoldable pub clips_size : List ℕ → List Clip → ℕ
clips_size tags [] = 0
clips_size tags (c ∷ cs) = full_size tags c + clips_size tags cs

abbrev pub whole_size : Head → List ℕ → ℕ → List ℕ → ℕ
whole_size h clips n tags = head_size h + length (lines_text (end_lines h)) + clips_size tags (clips_at clips n)
