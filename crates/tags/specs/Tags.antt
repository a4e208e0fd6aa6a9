-- parser.rs, `media_playlist_tag` and `media_segment_tag`: what a step of the reading may take, side by side with the Rust. Assumes nothing.
use Rattle.std.specs.Prelude.{ℕ, suc, cond, List, [], ◌∷◌, ◌++◌, map as mapᴸ, length}
use Rattle.std.proofs.Math.Option
use Rattle.std.proofs.Math.Option.{Option, none, some}
use Rattle.text.specs.Why.{other_text}
use Rattle.text.specs.Nom.{Parser, fail, Span, bytes, tagged, tag, place, or_else, alt, map, preceded, ◌>>=◌, done, multispace0, peek_take1}
use Rattle.text.specs.Util.{number, number_or_zero, ByteRange, byte_range_val, consume_line}
use Rattle.text.specs.BasicTags.{ExtTag, ext_tag, comment_tag, PlaylistType, playlist_type}
use Rattle.attributes.specs.ExtMap.{Map, extmap}
use Rattle.lengths.specs.Duration.{Extinf, duration_title_tag}

-- enum MediaPlaylistTag: what a tag says of the head
pub data HeadTag : Type 0 where
  version target_duration media_sequence discontinuity_sequence : ℕ → HeadTag
  typed : PlaylistType → HeadTag
  i_frames_only independent_segments end_list : HeadTag

-- enum SegmentTag: what a tag says of the clip in the making
pub data ClipTag : Type 0 where
  timed : Extinf → ClipTag
  ranged : ByteRange → ClipTag
  discontinuity : ClipTag
  mapped : Map → ClipTag

-- the EXTINF among them
abbrev pub timed_of : ClipTag → Option Extinf
timed_of (timed e) = some e
timed_of (ranged r) = none
timed_of discontinuity = none
timed_of (mapped m) = none

-- a tag that 01 leaves out: its fixed text is there, colon included
pub data LeftOut : Type 0 where
  start key program_date_time date_range : LeftOut

pub data Tag : Type 0 where
  of_head : HeadTag → Tag
  of_clip : ClipTag → Tag
  unknown : ExtTag → Tag
  comment : Option Span → Tag
  uri : Span → Tag
  left_out : LeftOut → Tag

abbrev pub marks : Tag → Parser (Unit {0}) → Parser Tag
marks t p = map (λ _. t) p

-- ---- a known tag as data: its fixed text, the rule of what follows it and what that says; or a fixed text alone and the tag that it is
pub data Row : Type 1 where
  row : {A : Type 0} → List ℕ → Parser A → (A → Tag) → Row
  mark : List ℕ → Tag → Row

abbrev pub literal : Row → List ℕ
literal (row t p f) = t
literal (mark t x) = t

-- the rule that a row is
abbrev pub reads : Row → Parser Tag
reads (row t p f) = map f (preceded (tag t) p)
reads (mark t x) = marks x (tag t)

-- alt((p, q, ..)): the first that holds
abbrev pub first_of : List (Parser Tag) → Parser Tag
first_of [] text at = fail other_text
first_of (p ∷ []) text at = p text at
first_of (p ∷ q ∷ ps) text at = or_else (p text at) (first_of (q ∷ ps) text at)

-- which tag a line is, by its fixed text: the first row whose text stands here, read there. Where it does not read, the reason is its own
unfoldable pub matched : List Row → Parser Tag
matched [] text at = fail other_text
matched (r ∷ rs) text at = cond (tagged (literal r) text at) (reads r text at) (matched rs text at)

-- the number of that row
unfoldable pub matched_row : List Row → List ℕ → ℕ → Option ℕ
matched_row [] text at = none
matched_row (r ∷ rs) text at = cond (tagged (literal r) text at) (some 0) (Option.map suc (matched_row rs text at))

-- ---- the alternatives of media_playlist_tag but its last, in order: numbers 0 to 8
-- map(version_tag, MediaPlaylistTag::Version); fn version_tag = map(pair(tag("#EXT-X-VERSION:"), digit1), |(_, version)| version.parse().unwrap_or_default())
abbrev pub version_row : Row
version_row = row (bytes "#EXT-X-VERSION:") number_or_zero (λ x. of_head (version x))

-- map(pair(tag("#EXT-X-TARGETDURATION:"), number), |(_, duration)| MediaPlaylistTag::TargetDuration(duration))
abbrev pub target_duration_row : Row
target_duration_row = row (bytes "#EXT-X-TARGETDURATION:") number (λ x. of_head (target_duration x))

-- map(pair(tag("#EXT-X-MEDIA-SEQUENCE:"), number), |(_, sequence)| MediaPlaylistTag::MediaSequence(sequence))
abbrev pub media_sequence_row : Row
media_sequence_row = row (bytes "#EXT-X-MEDIA-SEQUENCE:") number (λ x. of_head (media_sequence x))

-- map(pair(tag("#EXT-X-DISCONTINUITY-SEQUENCE:"), number), |(_, sequence)| MediaPlaylistTag::DiscontinuitySequence(sequence))
abbrev pub discontinuity_sequence_row : Row
discontinuity_sequence_row = row (bytes "#EXT-X-DISCONTINUITY-SEQUENCE:") number (λ x. of_head (discontinuity_sequence x))

-- map(pair(tag("#EXT-X-PLAYLIST-TYPE:"), playlist_type), |(_, typ)| MediaPlaylistTag::PlaylistType(typ))
abbrev pub playlist_type_row : Row
playlist_type_row = row (bytes "#EXT-X-PLAYLIST-TYPE:") playlist_type (λ x. of_head (typed x))

-- map(tag("#EXT-X-I-FRAMES-ONLY"), |_| MediaPlaylistTag::IFramesOnly)
abbrev pub i_frames_only_row : Row
i_frames_only_row = mark (bytes "#EXT-X-I-FRAMES-ONLY") (of_head i_frames_only)

-- map(start_tag, MediaPlaylistTag::Start)
abbrev pub start_row : Row
start_row = mark (bytes "#EXT-X-START:") (left_out start)

-- map(tag("#EXT-X-INDEPENDENT-SEGMENTS"), |_| MediaPlaylistTag::IndependentSegments)
abbrev pub independent_segments_row : Row
independent_segments_row = mark (bytes "#EXT-X-INDEPENDENT-SEGMENTS") (of_head independent_segments)

-- map(tag("#EXT-X-ENDLIST"), |_| MediaPlaylistTag::EndList)
abbrev pub end_list_row : Row
end_list_row = mark (bytes "#EXT-X-ENDLIST") (of_head end_list)

abbrev pub playlist_rows : List Row
playlist_rows =
    version_row
    ∷ target_duration_row
    ∷ media_sequence_row
    ∷ discontinuity_sequence_row
    ∷ playlist_type_row
    ∷ i_frames_only_row
    ∷ start_row
    ∷ independent_segments_row
    ∷ end_list_row
    ∷ []

unfoldable pub playlist_tag : Parser Tag
playlist_tag = first_of (mapᴸ reads playlist_rows)

-- ---- the alternatives of media_segment_tag but its last three, in order: numbers 9 to 15
-- map(pair(tag("#EXTINF:"), duration_title_tag), |(_, (duration, title))| SegmentTag::Extinf(duration, title))
abbrev pub extinf_row : Row
extinf_row = row (bytes "#EXTINF:") duration_title_tag (λ x. of_clip (timed x))

-- map(pair(tag("#EXT-X-BYTERANGE:"), byte_range_val), |(_, range)| SegmentTag::ByteRange(range))
abbrev pub byte_range_row : Row
byte_range_row = row (bytes "#EXT-X-BYTERANGE:") byte_range_val (λ x. of_clip (ranged x))

-- map(tag("#EXT-X-DISCONTINUITY"), |_| SegmentTag::Discontinuity)
abbrev pub discontinuity_row : Row
discontinuity_row = mark (bytes "#EXT-X-DISCONTINUITY") (of_clip discontinuity)

-- map(pair(tag("#EXT-X-KEY:"), key), |(_, key)| SegmentTag::Key(key))
abbrev pub key_row : Row
key_row = mark (bytes "#EXT-X-KEY:") (left_out key)

-- map(pair(tag("#EXT-X-MAP:"), extmap), |(_, map)| SegmentTag::Map(map))
abbrev pub map_row : Row
map_row = row (bytes "#EXT-X-MAP:") extmap (λ x. of_clip (mapped x))

-- map(pair(tag("#EXT-X-PROGRAM-DATE-TIME:"), program_date_time), |(_, pdt)| SegmentTag::ProgramDateTime(pdt))
abbrev pub program_date_time_row : Row
program_date_time_row = mark (bytes "#EXT-X-PROGRAM-DATE-TIME:") (left_out program_date_time)

-- map(pair(tag("#EXT-X-DATERANGE:"), daterange), |(_, range)| SegmentTag::DateRange(range))
abbrev pub date_range_row : Row
date_range_row = mark (bytes "#EXT-X-DATERANGE:") (left_out date_range)

abbrev pub segment_rows : List Row
segment_rows =
    extinf_row
    ∷ byte_range_row
    ∷ discontinuity_row
    ∷ key_row
    ∷ map_row
    ∷ program_date_time_row
    ∷ date_range_row
    ∷ []

-- the number of the first of them
abbrev pub clips_from : ℕ
clips_from = length playlist_rows

unfoldable pub segment_tag : Parser Tag
segment_tag = first_of (mapᴸ reads segment_rows)

-- ---- and what else may stand there: numbers 16 to 18
-- map(ext_tag, SegmentTag::Unknown)
abbrev pub unknown_tag : Parser Tag
unknown_tag = map unknown ext_tag

-- map(comment_tag, SegmentTag::Comment)
abbrev pub comment_line : Parser Tag
comment_line = map comment comment_tag

-- map(consume_line, SegmentTag::Uri)
abbrev pub uri_line : Parser Tag
uri_line = map uri consume_line

abbrev pub other_tags : List (Parser Tag)
other_tags = unknown_tag ∷ comment_line ∷ uri_line ∷ []

unfoldable pub other_tag : Parser Tag
other_tag = first_of other_tags

-- fn media_segment_tag
unfoldable pub media_segment_tag : Parser Tag
media_segment_tag = alt segment_tag other_tag

-- fn media_playlist_tag: "Don't accept empty inputs here": peek(take(1usize))(i)?
unfoldable pub media_playlist_tag : Parser Tag
media_playlist_tag =
    peek_take1 >>= λ _.
    alt playlist_tag media_segment_tag

-- ---- the same alternatives as one numbered list, in two groups: known tags, 0 to 15, and what else may stand there, 16 to 18
abbrev pub known_rows : List Row
known_rows = playlist_rows ++ segment_rows

abbrev pub alternatives : List (Parser Tag)
alternatives = mapᴸ reads known_rows ++ other_tags

-- the number of the alternative that takes such a tag
abbrev pub alternative_of : Tag → ℕ
alternative_of (of_head (version v)) = 0
alternative_of (of_head (target_duration d)) = 1
alternative_of (of_head (media_sequence n)) = 2
alternative_of (of_head (discontinuity_sequence n)) = 3
alternative_of (of_head (typed t)) = 4
alternative_of (of_head i_frames_only) = 5
alternative_of (left_out start) = 6
alternative_of (of_head independent_segments) = 7
alternative_of (of_head end_list) = 8
alternative_of (of_clip (timed e)) = 9
alternative_of (of_clip (ranged r)) = 10
alternative_of (of_clip discontinuity) = 11
alternative_of (left_out key) = 12
alternative_of (of_clip (mapped m)) = 13
alternative_of (left_out program_date_time) = 14
alternative_of (left_out date_range) = 15
alternative_of (unknown t) = 16
alternative_of (comment c) = 17
alternative_of (uri u) = 18

-- ---- what a step took, and where it began
pub data Taken : Type 0 where
  took : ℕ → Tag → Taken

-- a step: map(pair(media_playlist_tag, multispace0), |(tag, _)| tag)
unfoldable pub step : Parser Taken
step =
    place >>= λ from.
    media_playlist_tag >>= λ t.
    multispace0 >>= λ _.
    done (took from t)
