-- The clip in the making as the words of its record, group by group: what the code holds of it from tag to tag, and lays down where a URI ends it.
-- Assumes nothing.
use Rattle.std.specs.Prelude.{ℕ, ◌+◌, List, [], ◌∷◌, ◌++◌}
use Rattle.std.proofs.Math.Option.{some}
use Rattle.text.specs.Nom.{Span}
use Rattle.lengths.specs.Binary32.{seconds_bits}
use Rattle.lengths.specs.Duration.{ns, too_many_digits, extinf}
use Rattle.tables.specs.Layout.{has_range, has_range_offset, has_discontinuity}
use Rattle.tags.specs.Tags.{ClipTag, timed, ranged, discontinuity, mapped, Tag, of_head, of_clip, unknown, comment, uri, left_out}
use Rattle.assembly.specs.declared.making.Making as makingᵈ
use Rattle.assembly.specs.Assembly.{Segment, empty_segment}
use Rattle.assembly.specs.Words.{span_words, part_words, range_words, map_words, range_flags, break_flags, map_flags}

-- length; title; the flags of range, discontinuity and map; range; map
pub data Groups : Type 0 where
  groups : ℕ → List ℕ → ℕ → ℕ → ℕ → List ℕ → List ℕ → Groups

abbrev pub making_seen : makingᵈ.Making → Groups
making_seen m =
    groups m.length (m.title.first ∷ m.title.second ∷ []) m.range_flags m.break_flags m.map_flags (m.range.first ∷ m.range.second ∷ [])
    (m.map.uri_start ∷ m.map.uri_end ∷ m.map.range_length ∷ m.map.range_offset ∷ m.map.list_start ∷ m.map.list_end ∷ [])

-- the words that a clip's tags tell
abbrev pub segment_words : Segment → Groups
segment_words s =
    groups s.length (part_words s.title) (range_flags has_range has_range_offset s.range) (break_flags s.discontinuity) (map_flags s.map) (range_words s.range) (map_words s.map)

-- after a tag of the clip, and after any tag
abbrev pub told_words : Groups → ClipTag → Groups
told_words (groups l t x y z r m) (timed (extinf (ns n) title)) = groups n (part_words title) x y z r m
told_words (groups l t x y z r m) (timed (extinf too_many_digits title)) = groups l t x y z r m
told_words (groups l t x y z r m) (ranged b) = groups l t (range_flags has_range has_range_offset (some b)) y z (range_words (some b)) m
told_words (groups l t x y z r m) discontinuity = groups l t x has_discontinuity z r m
told_words (groups l t x y z r m) (mapped n) = groups l t x y (map_flags (some n)) r (map_words (some n))

abbrev pub words_after : Groups → Tag → Groups
words_after g (of_head t) = g
words_after g (of_clip t) = told_words g t
words_after g (unknown t) = g
words_after g (comment t) = g
words_after g (uri u) = segment_words empty_segment
words_after g (left_out t) = g

-- the record of the clip that a URI ends, with its first unknown tag and how many
abbrev pub record_words : Span → Groups → ℕ → ℕ → List ℕ
record_words u (groups l t x y z r m) f n =
    span_words u
    ++ ((l ∷ seconds_bits l ∷ [])
    ++ (t
    ++ (((x + y + z) ∷ [])
    ++ (r
    ++ (m
    ++ (f ∷ n ∷ []))))))
