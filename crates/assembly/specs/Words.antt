-- 01, "Clip record": the words of a clip and of an unknown tag, in the order of the layout. Assumes nothing.
use Rattle.std.specs.Prelude.{ℕ, ◌+◌, Bool, true, false, List, [], ◌∷◌, ◌++◌}
use Rattle.std.proofs.Math.Option.{Option, none, some}
use Rattle.text.specs.Nom.{Span, span}
use Rattle.text.specs.Util.{ByteRange, range}
use Rattle.text.specs.BasicTags.{ExtTag, ext}
use Rattle.attributes.specs.ExtMap.{Map, ext_map}
use Rattle.lengths.specs.Binary32.{seconds_bits}
use Rattle.tables.specs.Layout.{has_range, has_range_offset, has_discontinuity, has_map, has_map_range, has_map_offset}
use Rattle.assembly.specs.Assembly.{Clip}

abbrev pub span_words : Span → List ℕ
span_words (span a b) = a ∷ b ∷ []

-- "An absent title, rest, range, offset or map is zeros in its words"
abbrev pub part_words : Option Span → List ℕ
part_words none = 0 ∷ 0 ∷ []
part_words (some s) = span_words s

abbrev pub range_words : Option ByteRange → List ℕ
range_words none = 0 ∷ 0 ∷ []
range_words (some (range n none)) = n ∷ 0 ∷ []
range_words (some (range n (some o))) = n ∷ o ∷ []

-- map URI; map range's length, offset; map list
abbrev pub map_words : Option Map → List ℕ
map_words none = 0 ∷ 0 ∷ 0 ∷ 0 ∷ 0 ∷ 0 ∷ []
map_words (some (ext_map u r l)) = span_words u ++ (range_words r ++ span_words l)

-- "flags (1 range, 2 range offset, 4 discontinuity, 8 map, 16 map range, 32 map offset)"
abbrev pub range_flags : ℕ → ℕ → Option ByteRange → ℕ
range_flags r o none = 0
range_flags r o (some (range n none)) = r
range_flags r o (some (range n (some x))) = r + o

abbrev pub break_flags : Bool → ℕ
break_flags true = has_discontinuity
break_flags false = 0

abbrev pub map_flags : Option Map → ℕ
map_flags none = 0
map_flags (some (ext_map u r l)) = has_map + range_flags has_map_range has_map_offset r

abbrev pub flags_of : Option ByteRange → Bool → Option Map → ℕ
flags_of r d m = range_flags has_range has_range_offset r + break_flags d + map_flags m

-- "0, 1 URI start and end; 2 length in ns; 3 its binary32 bits; 4, 5 title; 6 flags; 7, 8 range length, offset; 9 to 14 map; 15 first unknown tag; 16 how many"
unfoldable pub clip_words_of : Clip → List ℕ
clip_words_of c =
    let s = c.segment in
    span_words c.uri
    ++ ((s.length ∷ seconds_bits s.length ∷ [])
    ++ (part_words s.title
    ++ ((flags_of s.range s.discontinuity s.map ∷ [])
    ++ (range_words s.range
    ++ (map_words s.map
    ++ (c.first_tag ∷ c.tag_count ∷ []))))))

-- "Unknown tag: name start, end, rest start, end."
unfoldable pub tag_words_of : ExtTag → List ℕ
tag_words_of (ext name rest) = span_words name ++ part_words rest

-- record after record
unfoldable pub clips_words : List Clip → List ℕ
clips_words [] = []
clips_words (c ∷ cs) = clip_words_of c ++ clips_words cs

unfoldable pub tags_words : List ExtTag → List ℕ
tags_words [] = []
tags_words (t ∷ ts) = tag_words_of t ++ tags_words ts
