-- The cue file (02, [3]): "a record a clip (start seconds and nanoseconds in 32 bits each, URI length in 16), then the URI bytes, then a trailer in the last
-- twelve bytes that points back: place of records and of URIs in 32 bits each, count and version 1 in 16 bits each, high byte first, nothing else and no gaps".
-- A row of fields stands here once, for writing and for reading. The widths are values, so that the laws hold for any. Assumes nothing.
use Rattle.std.specs.Prelude.{Bool, true, ◌&&◌, List, [], ◌∷◌, ◌++◌, ℕ, zero, suc, ◌+◌, ◌*◌, ◌/◌, ◌%◌, ◌^◌, ltb, length, get_or}
use Rattle.tables.specs.Layout.{second}

-- ---- a number in so many bytes, "high byte first"
unfoldable pub bytes_of : ℕ → ℕ → List ℕ
bytes_of zero value = []
bytes_of (suc width) value = bytes_of width (value / 256) ++ (value % 256 ∷ [])

-- the number at a place
unfoldable pub value_at : ℕ → List ℕ → ℕ → ℕ
value_at zero file at = 0
value_at (suc width) file at = value_at width file at * 256 + get_or file (at + width) 0

-- a field of this width holds it
abbrev pub holds : ℕ → ℕ → Bool
holds width value = ltb value (256 ^ width)

-- ---- a row: fields one behind the other, by their widths and values
abbrev pub row_of : List ℕ → List ℕ → List ℕ
row_of [] values = []
row_of (w ∷ widths) [] = bytes_of w 0 ++ row_of widths []
row_of (w ∷ widths) (v ∷ values) = bytes_of w v ++ row_of widths values

-- the values of the row at a place
abbrev pub row_at : List ℕ → List ℕ → ℕ → List ℕ
row_at [] file at = []
row_at (w ∷ widths) file at = value_at w file at ∷ row_at widths file (at + w)

-- each field holds its value
abbrev pub row_holds : List ℕ → List ℕ → Bool
row_holds [] values = true
row_holds (w ∷ widths) [] = true
row_holds (w ∷ widths) (v ∷ values) = holds w v && row_holds widths values

abbrev pub row_width : List ℕ → ℕ
row_width [] = 0
row_width (w ∷ widths) = w + row_width widths

-- ---- the two rows of a file, field by field: of their widths and of their values alike
-- "a record a clip"
pub record ClipRow : Type 0 where
  pub seconds : ℕ
  pub nanoseconds : ℕ
  pub uri_length : ℕ

-- "a trailer"
pub record Trailer : Type 0 where
  pub records : ℕ
  pub uris : ℕ
  pub count : ℕ
  pub version : ℕ

-- in their order
abbrev pub clip_fields : ClipRow → List ℕ
clip_fields r = r.seconds ∷ r.nanoseconds ∷ r.uri_length ∷ []

abbrev pub trailer_fields : Trailer → List ℕ
trailer_fields r = r.records ∷ r.uris ∷ r.count ∷ r.version ∷ []

-- and back
abbrev pub clip_row : List ℕ → ClipRow
clip_row fields = record { seconds = get_or fields 0 0; nanoseconds = get_or fields 1 0; uri_length = get_or fields 2 0 }

abbrev pub trailer : List ℕ → Trailer
trailer fields = record { records = get_or fields 0 0; uris = get_or fields 1 0; count = get_or fields 2 0; version = get_or fields 3 0 }

-- ---- a format: the number of its version, and the width of each field in bytes
pub record Format : Type 0 where
  pub number : ℕ
  pub clip_widths : ClipRow
  pub trailer_widths : Trailer

-- "32 bits each, URI length in 16"; "32 bits each, count and version 1 in 16 bits each"
abbrev pub version1 : Format
version1 = record {
  number = 1;
  clip_widths = record { seconds = 4; nanoseconds = 4; uri_length = 2 };
  trailer_widths = record { records = 4; uris = 4; count = 2; version = 2 };
}

-- ---- a list: each clip's start in ns, and the bytes of its URI
pub record Cue : Type 0 where
  pub start : ℕ
  pub uri : List ℕ

unfoldable pub uris : List Cue → List ℕ
uris [] = []
uris (c ∷ cues) = c.uri ++ uris cues

module _ (f : Format) where
  abbrev pub clip_width : ℕ
  clip_width = row_width (clip_fields f.clip_widths)

  abbrev pub trailer_width : ℕ
  trailer_width = row_width (trailer_fields f.trailer_widths)

  -- the values of a clip's record, and of the trailer of n clips: records from 0 on, URIs behind the records
  abbrev pub clip_values : Cue → ClipRow
  clip_values c = record { seconds = c.start / second; nanoseconds = c.start % second; uri_length = length c.uri }

  abbrev pub trailer_values : ℕ → Trailer
  trailer_values n = record { records = 0; uris = n * clip_width; count = n; version = f.number }

  -- their bytes
  abbrev pub clip_bytes : Cue → List ℕ
  clip_bytes c = row_of (clip_fields f.clip_widths) (clip_fields (clip_values c))

  abbrev pub trailer_bytes : ℕ → List ℕ
  trailer_bytes n = row_of (trailer_fields f.trailer_widths) (trailer_fields (trailer_values n))

  unfoldable pub clips_bytes : List Cue → List ℕ
  clips_bytes [] = []
  clips_bytes (c ∷ cues) = clip_bytes c ++ clips_bytes cues

  -- the file of a list: "a record a clip, then the URI bytes, then a trailer"
  unfoldable pub file_of : List Cue → List ℕ
  file_of cues = clips_bytes cues ++ (uris cues ++ trailer_bytes (length cues))

  -- every field of it holds its value
  unfoldable pub clips_hold : List Cue → Bool
  clips_hold [] = true
  clips_hold (c ∷ cues) = row_holds (clip_fields f.clip_widths) (clip_fields (clip_values c)) && clips_hold cues

  unfoldable pub file_holds : List Cue → Bool
  file_holds cues = row_holds (trailer_fields f.trailer_widths) (trailer_fields (trailer_values (length cues))) && clips_hold cues
