-- A clip and an unknown tag out of their words (01, "Clip record"): the way back from what a reading stored. Assumes nothing.
use Rattle.std.specs.Prelude.{ℕ, Bool, true, false, not, ◌&&◌, List, eqb}
use Rattle.std.proofs.Math.Option.{Option, none, some}
use Rattle.text.specs.Nom.{Span, span}
use Rattle.text.specs.Util.{ByteRange, range}
use Rattle.text.specs.BasicTags.{ExtTag, ext}
use Rattle.attributes.specs.ExtMap.{Map, ext_map}
use Rattle.tables.specs.Layout as layout
use Rattle.tables.specs.Table.{listed, clip_word, tag_word, has_flag}
use Rattle.assembly.specs.Assembly.{segment, Clip, clip}

abbrev pub optional : {A : Type 0} → Bool → A → Option A
optional true a = some a
optional false a = none

-- "a title or rest is present unless both its words are zero"
unfoldable pub part_at : ℕ → ℕ → Option Span
part_at start end = optional (not (eqb start 0 && eqb end 0)) (span start end)

-- a range where its flag is there, an offset where its own is
unfoldable pub range_at : ℕ → ℕ → ℕ → ℕ → ℕ → Option ByteRange
range_at flags present offset n o = optional (has_flag flags present) (range n (optional (has_flag flags offset) o))

module _ (t : List ℕ) where
  -- the map of clip k: its URI, its range, its list
  unfoldable pub map_at : ℕ → Option Map
  map_at k =
      optional (has_flag (clip_word t k layout.flags) layout.has_map)
      (ext_map (span (clip_word t k layout.map_uri_start) (clip_word t k layout.map_uri_end))
      (range_at (clip_word t k layout.flags) layout.has_map_range layout.has_map_offset (clip_word t k layout.map_range_length) (clip_word t k layout.map_range_offset))
      (span (clip_word t k layout.map_list_start) (clip_word t k layout.map_list_end)))

  -- clip k of a table
  unfoldable pub clip_at : ℕ → Clip
  clip_at k =
      clip (span (clip_word t k layout.uri_start) (clip_word t k layout.uri_end))
      (segment (clip_word t k layout.length_ns)
      (part_at (clip_word t k layout.title_start) (clip_word t k layout.title_end))
      (range_at (clip_word t k layout.flags) layout.has_range layout.has_range_offset (clip_word t k layout.range_length) (clip_word t k layout.range_offset))
      (has_flag (clip_word t k layout.flags) layout.has_discontinuity)
      (map_at k))
      (clip_word t k layout.first_tag)
      (clip_word t k layout.tag_count)

  -- unknown tag k of a table
  unfoldable pub tag_at : ℕ → ExtTag
  tag_at k = ext (span (tag_word t k layout.name_start) (tag_word t k layout.name_end)) (part_at (tag_word t k layout.rest_start) (tag_word t k layout.rest_end))

-- the first n records of a table
abbrev pub clips_at : List ℕ → ℕ → List Clip
clips_at t n = listed (clip_at t) 0 n

abbrev pub tags_at : List ℕ → ℕ → List ExtTag
tags_at t n = listed (tag_at t) 0 n
