-- playlist.rs, `MediaPlaylist::write_to` and what it calls: a playlist as a list of lines, in the crate's order, and the bytes of each line. LF only.
-- Assumes nothing.
use Rattle.std.specs.Prelude.{ℕ, zero, suc, Bool, true, false, List, [], ◌∷◌, ◌++◌, map, take, drop}
use Rattle.std.proofs.Math.Option.{Option, none, some}
use Rattle.text.specs.Nom.{Span, bytes}
use Rattle.text.specs.Util.{ByteRange, range}
use Rattle.text.specs.BasicTags.{ExtTag, ext, PlaylistType, event, vod, other}
use Rattle.text.specs.Lines.{unlines}
use Rattle.attributes.specs.ExtMap.{Map, ext_map}
use Rattle.digits.specs.Digits.{number_text, length_text}
use Rattle.assembly.specs.Assembly.{Head, Clip}
use Rattle.text.specs.Spans.{shown, shown_part}

-- a line of the text, its parts by their bytes
pub data Line : Type 0 where
  header_line independent_segments_line i_frames_only_line discontinuity_line end_list_line : Line
  version_line target_duration_line media_sequence_line discontinuity_sequence_line : ℕ → Line
  playlist_type_line : List ℕ → Line
  map_line : List ℕ → Option ByteRange → Line
  byte_range_line : ByteRange → Line
  -- name; rest, if present
  unknown_line : List ℕ → Option (List ℕ) → Line
  -- length in ns; title, or nothing
  extinf_line : ℕ → List ℕ → Line
  uri_line : List ℕ → Line

-- ByteRange::write_value_to: write!(w, "{}", self.length)?; if let Some(offset) = self.offset { write!(w, "@{}", offset)?; }
abbrev pub range_bytes : ByteRange → List ℕ
range_bytes (range n none) = number_text n
range_bytes (range n (some o)) = number_text n ++ (bytes "@" ++ number_text o)

-- in Map::write_attributes_to: if let Some(ref byte_range) = self.byte_range { write!(w, ",BYTERANGE=\"")?; .. write!(w, "\"")?; }
abbrev pub map_range_bytes : Option ByteRange → List ℕ
map_range_bytes none = []
map_range_bytes (some r) = bytes ",BYTERANGE=\"" ++ (range_bytes r ++ bytes "\"")

-- Display for ExtTag: write!(f, "#EXT-{}", self.tag)?; if let Some(v) = &self.rest { write!(f, ":{}", v)?; }
abbrev pub rest_bytes : Option (List ℕ) → List ℕ
rest_bytes none = []
rest_bytes (some r) = bytes ":" ++ r

abbrev pub line_bytes : Line → List ℕ
-- writeln!(w, "#EXTM3U")
line_bytes header_line = bytes "#EXTM3U\n"
-- writeln!(w, "#EXT-X-VERSION:{}", v)
line_bytes (version_line n) = bytes "#EXT-X-VERSION:" ++ (number_text n ++ bytes "\n")
-- writeln!(w, "#EXT-X-INDEPENDENT-SEGMENTS")
line_bytes independent_segments_line = bytes "#EXT-X-INDEPENDENT-SEGMENTS\n"
-- writeln!(w, "#EXT-X-TARGETDURATION:{}", self.target_duration)
line_bytes (target_duration_line n) = bytes "#EXT-X-TARGETDURATION:" ++ (number_text n ++ bytes "\n")
-- writeln!(w, "#EXT-X-MEDIA-SEQUENCE:{}", self.media_sequence)
line_bytes (media_sequence_line n) = bytes "#EXT-X-MEDIA-SEQUENCE:" ++ (number_text n ++ bytes "\n")
-- writeln!(w, "#EXT-X-DISCONTINUITY-SEQUENCE:{}", self.discontinuity_sequence)
line_bytes (discontinuity_sequence_line n) = bytes "#EXT-X-DISCONTINUITY-SEQUENCE:" ++ (number_text n ++ bytes "\n")
-- writeln!(w, "#EXT-X-PLAYLIST-TYPE:{}", v)
line_bytes (playlist_type_line t) = bytes "#EXT-X-PLAYLIST-TYPE:" ++ (t ++ bytes "\n")
-- writeln!(w, "#EXT-X-I-FRAMES-ONLY")
line_bytes i_frames_only_line = bytes "#EXT-X-I-FRAMES-ONLY\n"
-- write!(w, "#EXT-X-MAP:")?; map.write_attributes_to(w)?; writeln!(w)?; where the map writes "URI=\"{}\"" and its range
line_bytes (map_line uri r) = bytes "#EXT-X-MAP:URI=\"" ++ (uri ++ (bytes "\"" ++ (map_range_bytes r ++ bytes "\n")))
-- write!(w, "#EXT-X-BYTERANGE:")?; byte_range.write_value_to(w)?; writeln!(w)?;
line_bytes (byte_range_line r) = bytes "#EXT-X-BYTERANGE:" ++ (range_bytes r ++ bytes "\n")
-- writeln!(w, "#EXT-X-DISCONTINUITY")
line_bytes discontinuity_line = bytes "#EXT-X-DISCONTINUITY\n"
-- writeln!(w, "{}", unknown_tag)
line_bytes (unknown_line name rest) = bytes "#EXT-" ++ (name ++ (rest_bytes rest ++ bytes "\n"))
-- write!(w, "#EXTINF:{},", self.duration)?; then writeln!(w, "{}", v) of a title, or writeln!(w)
line_bytes (extinf_line ns title) = bytes "#EXTINF:" ++ (length_text ns ++ (bytes "," ++ (title ++ bytes "\n")))
-- writeln!(w, "{}", self.uri)
line_bytes (uri_line uri) = uri ++ bytes "\n"
-- writeln!(w, "#EXT-X-ENDLIST")
line_bytes end_list_line = bytes "#EXT-X-ENDLIST\n"

-- ---- which lines there are
-- if let Some(..) = ..
abbrev pub line_if : {A : Type 0} → (A → Line) → Option A → List Line
line_if line none = []
line_if line (some a) = line a ∷ []

-- if self.i_frames_only
abbrev pub line_where : Line → Bool → List Line
line_where line false = []
line_where line true = line ∷ []

-- if self.media_sequence != 0
abbrev pub line_unless_zero : (ℕ → Line) → ℕ → List Line
line_unless_zero line zero = []
line_unless_zero line (suc n) = line (suc n) ∷ []

-- "a playlist type is its text"
abbrev pub type_text : List ℕ → PlaylistType → List ℕ
type_text text event = bytes "EVENT"
type_text text vod = bytes "VOD"
type_text text (other s) = shown text s

abbrev pub type_line_of : List ℕ → PlaylistType → Line
type_line_of text t = playlist_type_line (type_text text t)

-- MediaPlaylist::write_to from if self.media_sequence != 0 to if self.i_frames_only: the lines behind the target
abbrev pub rest_lines : List ℕ → Head → List Line
rest_lines text hd =
    line_unless_zero media_sequence_line hd.sequence
    ++ (line_unless_zero discontinuity_sequence_line hd.discontinuities
    ++ (line_if (type_line_of text) hd.type
    ++ line_where i_frames_only_line hd.i_frames))

-- MediaPlaylist::write_to up to the segments
unfoldable pub head_lines : List ℕ → Head → List Line
head_lines text hd =
    (header_line ∷ [])
    ++ (line_if version_line hd.version
    ++ (line_where independent_segments_line hd.independent
    ++ ((target_duration_line hd.target ∷ [])
    ++ rest_lines text hd)))

abbrev pub map_line_of : List ℕ → Map → Line
map_line_of text (ext_map u r l) = map_line (shown text u) r

abbrev pub tag_line_of : List ℕ → ExtTag → Line
tag_line_of text (ext name rest) = unknown_line (shown text name) (shown_part text rest)

-- if let Some(ref v) = self.title: no title is no bytes
abbrev pub title_text : List ℕ → Option Span → List ℕ
title_text text none = []
title_text text (some s) = shown text s

-- MediaSegment::write_to, with its unknown tags
unfoldable pub clip_lines : List ℕ → List ExtTag → Clip → List Line
clip_lines text tags c =
    let s = c.segment in
    line_if (map_line_of text) s.map
    ++ (line_if byte_range_line s.range
    ++ (line_where discontinuity_line s.discontinuity
    ++ (map (tag_line_of text) (take c.tag_count (drop c.first_tag tags))
    ++ (extinf_line s.length (title_text text s.title) ∷ uri_line (shown text c.uri) ∷ []))))

-- for segment in &self.segments { segment.write_to(w)?; }
unfoldable pub clips_lines : List ℕ → List ExtTag → List Clip → List Line
clips_lines text tags [] = []
clips_lines text tags (c ∷ cs) = clip_lines text tags c ++ clips_lines text tags cs

-- if self.end_list { writeln!(w, "#EXT-X-ENDLIST")?; }
abbrev pub end_lines : Head → List Line
end_lines hd = line_where end_list_line hd.ended

-- MediaPlaylist::write_to
unfoldable pub playlist_lines : List ℕ → Head → List Clip → List ExtTag → List Line
playlist_lines text h clips tags = head_lines text h ++ (clips_lines text tags clips ++ end_lines h)

-- and its bytes
abbrev pub lines_text : List Line → List ℕ
lines_text = unlines line_bytes

unfoldable pub playlist_text : List ℕ → Head → List Clip → List ExtTag → List ℕ
playlist_text text h clips tags = lines_text (playlist_lines text h clips tags)
