-- 01, "Both sides of each edge": the starred texts, and what each must give, in one statement. Assumes nothing.
use Rattle.std.specs.Prelude.{ℕ, ◌≡◌, refl, true, false, List, [], ◌∷◌, ◌++◌, map}
use Rattle.std.proofs.Math.Option.{none, some}
use Rattle.text.specs.Nom.{span, bytes, is_digit, begins, tagged, after_tag, run, run_end, decimal}
use Rattle.text.specs.Many.{many0, many_turns}
use Rattle.text.specs.Utf8.{utf8_end, utf8_char, one_of, octets, octet}
use Rattle.text.specs.Util.{consume_line, parsed, number, number_or_zero, byte_range_val, spells}
use Rattle.text.specs.BasicTags.{ext_tag, ext, ExtTag, comment_tag, playlist_type}
use Rattle.attributes.specs.Pairs.{quoted, unquoted, key_value_pair, next_pair, key_value_pairs, inserted}
use Rattle.attributes.specs.ExtMap.{extmap}
use Rattle.lengths.specs.Duration.{counted, float, duration_title_tag}
use Rattle.lengths.specs.Binary32.{seconds_bits}
use Rattle.tables.specs.Layout as layout
use Rattle.tables.specs.Table.{clip_word}
use Rattle.tables.specs.Refusal.{Answer, refused, given, no_header, is_master, left_out_tag}
use Rattle.verdict.specs.Verdict.{master_kind, media_kind, playlist_kind, segment_kind, is_master_playlist_tag_line, first_said, verdict_from}
use Rattle.verdict.specs.Calls.{admitted, verdict_of}
use Rattle.tags.specs.Tags as tags
use Rattle.assembly.specs.Assembly.{head, empty_head, segment, empty_segment, next, Clip, clip, last_of, clips_of, tags_of}
use Rattle.assembly.specs.Words.{clip_words_of}
use Rattle.media.specs.Calls.{first_step, steps_of, stop_of, unless_met, Read, read, parse_media_playlist, clips_read, tags_read}

-- all that a reading gives: head, counts and stopping place; the clips, and the bits of each; the kept tags
pub data Outcome : Type 0 where
  outcome : Read → List Clip → List ℕ → List ExtTag → Outcome

-- word 3 of a clip's record
abbrev pub bits_of : Clip → ℕ
bits_of c = clip_word (clip_words_of c) 0 layout.bits

abbrev pub outcome_of : Answer Read → List Clip → List ExtTag → Answer Outcome
outcome_of (refused r p) cs ts = refused r p
outcome_of (given a) cs ts = given (outcome a cs (map bits_of cs) ts)

-- with room for 60 clips and 32 tags
unfoldable pub reading : List ℕ → Answer Outcome
reading text = outcome_of (parse_media_playlist text 1024 128) (clips_read text) (tags_read text)

unfoldable pub readings : List (List ℕ) → List (Answer Outcome)
readings [] = []
readings (t ∷ ts) = reading t ∷ readings ts

-- M is `#EXTM3U` and LF
abbrev M : List ℕ
M = bytes "#EXTM3U\n"

abbrev pub texts : List (List ℕ)
texts =
    bytes ""
    ∷ bytes "#EXTM3U"
    ∷ (M ++ bytes "#EXTINF:9,a,b\nx\n")
    ∷ (M ++ bytes "#EXT-X-TARGETDURATION:10.5\n")
    ∷ (M ++ bytes "#EXT-X-FOO")
    ∷ (M ++ bytes "#EXT-X-FOO\n")
    ∷ (M ++ bytes "#EXT-X-MAP:URI=\"\"\nx\n")
    ∷ (M ++ bytes "#EXT-X-MAP:URI=\"m\",z\ny?k=1\n")
    ∷ (M ++ bytes "#EXT-X-DISCONTINUITY-SEQUENCE:q\n")
    ∷ (M ++ bytes "a\rb\n")
    ∷ (M ++ bytes "#EXT-X-MEDIA\n")
    ∷ (M ++ bytes "#EXT-X-KEY:METHOD=NONE\n")
    -- the bits: a clip of each length
    ∷ (M ++ bytes "#EXTINF:0.1,\na\n#EXTINF:9,\nb\n#EXTINF:16777217,\nc\n#EXTINF:16777216,\nd\n#EXTINF:999999999.999999999,\ne\n")
    ∷ []

abbrev pub expected : List (Answer Outcome)
expected =
    -- empty: 3 at 0
    refused no_header 0
    -- no clips, stopped at 7
    ∷ given (outcome (read empty_head 0 0 7) [] [] [])
    -- clips `b` (9 s, title `a`), `x` (0)
    ∷ given (outcome (read empty_head 2 0 24) (clip (span 20 21) (segment 9000000000 (some (span 18 19)) none false none) 0 0 ∷ clip (span 22 23) empty_segment 0 0 ∷ []) (0x41100000 ∷ 0 ∷ []) [])
    -- target 10, clip `.5`
    ∷ given (outcome (read (head none 10 0 0 none false false false) 1 0 35) (clip (span 32 34) empty_segment 0 0 ∷ []) (0 ∷ []) [])
    -- clip `#EXT-X-FOO`; with \n no clip
    ∷ given (outcome (read empty_head 1 0 18) (clip (span 8 18) empty_segment 0 0 ∷ []) (0 ∷ []) [])
    ∷ given (outcome (read empty_head 0 0 19) [] [] [])
    -- `x`, unknown X-MAP, rest `URI=""`
    ∷ given (outcome (read empty_head 1 1 28) (clip (span 26 27) empty_segment 0 1 ∷ []) (0 ∷ []) (ext (span 13 18) (some (span 19 25)) ∷ []))
    -- no clip
    ∷ given (outcome (read empty_head 0 0 35) [] [] [])
    -- clip `-SEQUENCE:q`, discontinuity
    ∷ given (outcome (read empty_head 1 0 40) (clip (span 28 39) (segment 0 none none true none) 0 0 ∷ []) (0 ∷ []) [])
    -- no clip, stopped at 8
    ∷ given (outcome (read empty_head 0 0 8) [] [] [])
    -- 4 at 8
    ∷ refused is_master 8
    -- 5 at 8
    ∷ refused left_out_tag 8
    -- bits: 0.1 s 3DCCCCCD, 9 s 41100000, 16777217 s as 16777216, 999999999.999999999 s 4E6E6B28
    ∷ given
    (outcome (read empty_head 5 0 107)
    (clip (span 21 22) (segment 100000000 none none false none) 0 0
    ∷ clip (span 34 35) (segment 9000000000 none none false none) 0 0
    ∷ clip (span 54 55) (segment 16777217000000000 none none false none) 0 0
    ∷ clip (span 74 75) (segment 16777216000000000 none none false none) 0 0
    ∷ clip (span 105 106) (segment 999999999999999999 none none false none) 0 0
    ∷ [])
    (0x3DCCCCCD ∷ 0x41100000 ∷ 0x4B800000 ∷ 0x4B800000 ∷ 0x4E6E6B28 ∷ [])
    [])
    ∷ []

pub edges : readings texts ≡ expected
unfolding readings reading parse_media_playlist clips_read tags_read first_step steps_of stop_of unless_met next last_of clips_of tags_of clip_words_of seconds_bits tags.step tags.media_playlist_tag tags.media_segment_tag tags.playlist_tag tags.segment_tag tags.other_tag admitted verdict_of verdict_from first_said is_master_playlist_tag_line master_kind media_kind playlist_kind segment_kind duration_title_tag float counted extmap key_value_pairs next_pair key_value_pair quoted unquoted inserted ext_tag comment_tag playlist_type consume_line parsed number number_or_zero byte_range_val spells utf8_end utf8_char one_of octets octet many0 many_turns is_digit begins tagged after_tag run run_end decimal
edges = refl
