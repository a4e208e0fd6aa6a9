-- Worked examples, by computation: what each tag says of the head, what a clip takes and the next one does not, and a clip's words. Assumes nothing.
use Rattle.std.specs.Prelude.{ℕ, ◌≡◌, refl, Bool, true, false, List, [], ◌∷◌, map}
use Rattle.std.proofs.Math.Option.{Option, none, some}
use Rattle.text.specs.Nom.{span}
use Rattle.text.specs.Util.{ByteRange, range}
use Rattle.text.specs.BasicTags.{ext, vod}
use Rattle.attributes.specs.ExtMap.{Map, ext_map}
use Rattle.lengths.specs.Duration.{ns, extinf}
use Rattle.lengths.specs.Binary32.{seconds_bits}
use Rattle.tables.specs.Layout as layout
use Rattle.tables.specs.Table.{clip_word}
use Rattle.tags.specs.Tags.{HeadTag, version, target_duration, media_sequence, discontinuity_sequence, typed, i_frames_only, independent_segments, end_list, timed, ranged, discontinuity, mapped, of_head, of_clip, unknown, uri, took}
use Rattle.assembly.specs.Assembly.{Head, empty_head, head_next, segment, begin, head_of, next, clip, last_of, clips_of}
use Rattle.assembly.specs.Words.{clip_words_of, tag_words_of}

-- ---- the head, by the names of its fields. "Of a repeated tag the last holds."
abbrev head_from : List HeadTag → Head
head_from ts = head_of (last_of begin (map (λ t. took 0 (of_head t)) ts))

numbers : head_from (version 9 ∷ version 3 ∷ target_duration 10 ∷ media_sequence 7 ∷ discontinuity_sequence 4 ∷ typed vod ∷ [])
    ≡ record { version = some 3; target = 10; sequence = 7; discontinuities = 4; type = some vod; ended = false; i_frames = false; independent = false }
unfolding last_of next
numbers = refl

-- "the marks end, I-frames only, independent": which tag sets which
abbrev marks_of : HeadTag → List Bool
marks_of t = (head_next empty_head t).ended ∷ (head_next empty_head t).i_frames ∷ (head_next empty_head t).independent ∷ []

marks : map marks_of (end_list ∷ i_frames_only ∷ independent_segments ∷ []) ≡ (true ∷ false ∷ false ∷ []) ∷ (false ∷ true ∷ false ∷ []) ∷ (false ∷ false ∷ true ∷ []) ∷ []
marks = refl

-- ---- the clips: "Tempting and wrong: .. carrying a map on to later clips". A clip takes all that was said since the URI before, and the next one none of it
not_carried :
    clips_of begin
    (map (took 0)
    (of_clip (timed (extinf (ns 2) (some (span 4 5))))
    ∷ of_clip (ranged (range 7 (some 8)))
    ∷ of_clip discontinuity
    ∷ of_clip (mapped (ext_map (span 9 10) none (span 13 14)))
    ∷ unknown (ext (span 20 21) none)
    ∷ uri (span 0 1)
    ∷ uri (span 30 31)
    ∷ []))
    ≡ clip (span 0 1) (segment 2 (some (span 4 5)) (some (range 7 (some 8))) true (some (ext_map (span 9 10) none (span 13 14)))) 0 1
    ∷ clip (span 30 31) (segment 0 none none false none) 1 0
    ∷ []
unfolding clips_of next
not_carried = refl

-- ---- a record of everything: word 0 is 100, word 16 is 116, but for a length of 9 s, its bits, and all six flags
words : clip_words_of (clip (span 100 101) (segment 9000000000 (some (span 104 105)) (some (range 107 (some 108))) true (some (ext_map (span 109 110) (some (range 111 (some 112))) (span 113 114)))) 115 116)
    ≡ 100 ∷ 101 ∷ 9000000000 ∷ 0x41100000 ∷ 104 ∷ 105 ∷ 63 ∷ 107 ∷ 108 ∷ 109 ∷ 110 ∷ 111 ∷ 112 ∷ 113 ∷ 114 ∷ 115 ∷ 116 ∷ []
unfolding clip_words_of seconds_bits
words = refl

-- "flags (1 range, 2 range offset, 4 discontinuity, 8 map, 16 map range, 32 map offset)": of clips that have this alone, an offset with its range
abbrev flags_with : Option ByteRange → Bool → Option Map → ℕ
flags_with r d m = clip_word (clip_words_of (clip (span 0 1) (segment 0 none r d m) 0 0)) 0 layout.flags

flags :
    flags_with none false none
    ∷ flags_with (some (range 7 none)) false none
    ∷ flags_with (some (range 7 (some 8))) false none
    ∷ flags_with none true none
    ∷ flags_with none false (some (ext_map (span 9 10) none (span 13 14)))
    ∷ flags_with none false (some (ext_map (span 9 10) (some (range 11 none)) (span 13 14)))
    ∷ flags_with none false (some (ext_map (span 9 10) (some (range 11 (some 12))) (span 13 14)))
    ∷ []
    ≡ 0 ∷ 1 ∷ 3 ∷ 4 ∷ 8 ∷ 24 ∷ 56 ∷ []
unfolding clip_words_of
flags = refl

-- "Unknown tag: name start, end, rest start, end", and an absent rest is zeros
tag_words : map tag_words_of (ext (span 1 2) (some (span 3 4)) ∷ ext (span 1 2) none ∷ []) ≡ (1 ∷ 2 ∷ 3 ∷ 4 ∷ []) ∷ (1 ∷ 2 ∷ 0 ∷ 0 ∷ []) ∷ []
unfolding tag_words_of
tag_words = refl
