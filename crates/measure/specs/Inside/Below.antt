-- Heads, clips and unknown tags whose spans are in order and end at n at most: those of a text of n bytes. And runs of unknown tags within theirs.
-- Assumes nothing.
use Rattle.std.specs.Prelude.{ℕ, ◌+◌, ◌≤◌, ◌<◌, List}
use Rattle.std.proofs.Math.Option.{Option, none, some}
use Rattle.text.specs.Nom.{Span, span}
use Rattle.text.specs.BasicTags.{ExtTag, ext, PlaylistType, event, vod, other}
use Rattle.attributes.specs.ExtMap.{Map, ext_map}
use Rattle.tables.specs.Layout as layout
use Rattle.tables.specs.Table.{clip_word}
use Rattle.assembly.specs.Assembly.{Clip}
use Rattle.records.specs.Records.{clip_at, tag_at}

module _ (n : ℕ) where
  abbrev pub SpanBelow : Span → Type 0
  SpanBelow (span a b) = (a ≤ b) × (b ≤ n)

  abbrev pub PartBelow : Option Span → Type 0
  PartBelow none = Unit {0}
  PartBelow (some s) = SpanBelow s

  abbrev pub TypeBelow : Option PlaylistType → Type 0
  TypeBelow none = Unit {0}
  TypeBelow (some event) = Unit {0}
  TypeBelow (some vod) = Unit {0}
  TypeBelow (some (other s)) = SpanBelow s

  abbrev pub MapBelow : Option Map → Type 0
  MapBelow none = Unit {0}
  MapBelow (some (ext_map u r l)) = SpanBelow u

  abbrev pub TagBelow : ExtTag → Type 0
  TagBelow (ext name rest) = SpanBelow name × PartBelow rest

  abbrev pub ClipBelow : Clip → Type 0
  ClipBelow c = SpanBelow c.uri × (PartBelow c.segment.title × MapBelow c.segment.map)

  -- the records of a table
  abbrev pub TagsBelow : List ℕ → ℕ → Type 0
  TagsBelow tags m = (k : ℕ) → k < m → TagBelow (tag_at tags k)

  abbrev pub ClipsBelow : List ℕ → ℕ → Type 0
  ClipsBelow clips m = (k : ℕ) → k < m → ClipBelow (clip_at clips k)

  -- the same of clip k by its words, present or not, and its length is below the limit
  pub record WordsBelow (clips : List ℕ) (k : ℕ) : Type 0 where
    pub uri : SpanBelow (span (clip_word clips k layout.uri_start) (clip_word clips k layout.uri_end))
    pub title : SpanBelow (span (clip_word clips k layout.title_start) (clip_word clips k layout.title_end))
    pub map_uri : SpanBelow (span (clip_word clips k layout.map_uri_start) (clip_word clips k layout.map_uri_end))
    pub length_below : clip_word clips k layout.length_ns < layout.length_limit

  abbrev pub TableBelow : List ℕ → ℕ → Type 0
  TableBelow clips m = (k : ℕ) → k < m → WordsBelow clips k

-- the run of each of n clips is within m unknown tags
abbrev pub RunsWithin : List ℕ → ℕ → ℕ → Type 0
RunsWithin clips n m = (k : ℕ) → k < n → clip_word clips k layout.first_tag + clip_word clips k layout.tag_count ≤ m
