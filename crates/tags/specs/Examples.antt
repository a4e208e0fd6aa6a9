-- Worked examples, by computation: for each alternative a text that it takes and one that it refuses, and what is taken then. Assumes nothing.
use Rattle.std.specs.Prelude.{ℕ, ◌^◌, ◌-◌, ◌≡◌, refl, List, [], ◌∷◌, ◌++◌, map}
use Prim.Native.String.{String}
use Rattle.std.proofs.Math.Option.{Option, none, some}
use Rattle.text.specs.Why.{other_text, no_digits, too_large, missing_byte, no_uri, uri_not_quoted, lone_cr}
use Rattle.text.specs.Many.{many0, many_turns}
use Rattle.text.specs.Nom.{Res, fail, ok, span, bytes, is_digit, begins, tagged, after_tag, run, run_end, decimal}
use Rattle.text.specs.Util.{consume_line, parsed, number, number_or_zero, range, byte_range_val, spells}
use Rattle.text.specs.BasicTags.{ext, ext_tag, comment_tag, vod, playlist_type}
use Rattle.attributes.specs.Pairs.{quoted, unquoted, key_value_pair, next_pair, key_value_pairs, inserted}
use Rattle.attributes.specs.ExtMap.{ext_map, extmap}
use Rattle.lengths.specs.Duration.{counted, ns, float, extinf, duration_title_tag}
use Rattle.tags.specs.Tags.{version, target_duration, media_sequence, discontinuity_sequence, typed, i_frames_only, independent_segments, end_list, timed, ranged, discontinuity, mapped, start, key, program_date_time, date_range, Tag, of_head, of_clip, unknown, comment, uri, left_out, Row, matched, matched_row, playlist_rows, playlist_tag, segment_rows, segment_tag, other_tag, media_segment_tag, media_playlist_tag, alternative_of, took, step}

-- what is taken at a text's start
unfoldable pub taken : String → Res Tag
unfolding media_playlist_tag playlist_tag media_segment_tag segment_tag other_tag ext_tag comment_tag consume_line number number_or_zero parsed byte_range_val playlist_type spells duration_title_tag float counted extmap key_value_pairs next_pair key_value_pair quoted unquoted inserted many0 many_turns is_digit decimal run_end run after_tag tagged begins
taken text = media_playlist_tag (bytes text) 0

-- ---- the head
-- too large: as 0
of_version : (taken "#EXT-X-VERSION:3\n" ≡ ok (of_head (version 3)) 16) × (taken "#EXT-X-VERSION:18446744073709551616\n" ≡ ok (of_head (version 0)) 35)
unfolding taken
of_version = (refl, refl)

-- too large: an unknown tag
of_target : (taken "#EXT-X-TARGETDURATION:10.5\n" ≡ ok (of_head (target_duration 10)) 24) × (taken "#EXT-X-TARGETDURATION:18446744073709551616\n" ≡ ok (unknown (ext (span 5 21) (some (span 22 42)))) 43)
unfolding taken
of_target = (refl, refl)

of_sequence : (taken "#EXT-X-MEDIA-SEQUENCE:7\n" ≡ ok (of_head (media_sequence 7)) 23) × (taken "#EXT-X-MEDIA-SEQUENCE\n" ≡ ok (unknown (ext (span 5 21) none)) 22)
unfolding taken
of_sequence = (refl, refl)

-- no number: a discontinuity, which ends before `-SEQUENCE`
of_discontinuity : (taken "#EXT-X-DISCONTINUITY-SEQUENCE:4\n" ≡ ok (of_head (discontinuity_sequence 4)) 31) × (taken "#EXT-X-DISCONTINUITY-SEQUENCE:q\n" ≡ ok (of_clip discontinuity) 20)
unfolding taken
of_discontinuity = (refl, refl)

of_type : (taken "#EXT-X-PLAYLIST-TYPE:VOD\n" ≡ ok (of_head (typed vod)) 25) × (taken "#EXT-X-PLAYLIST-TYPE:\n" ≡ ok (unknown (ext (span 5 20) none)) 22)
unfolding taken
of_type = (refl, refl)

of_i_frames : (taken "#EXT-X-I-FRAMES-ONLY\n" ≡ ok (of_head i_frames_only) 20) × (taken "#EXT-X-I-FRAMES\n" ≡ ok (unknown (ext (span 5 15) none)) 16)
unfolding taken
of_i_frames = (refl, refl)

of_independent : (taken "#EXT-X-INDEPENDENT-SEGMENTS\n" ≡ ok (of_head independent_segments) 27) × (taken "#EXT-X-INDEPENDENT\n" ≡ ok (unknown (ext (span 5 18) none)) 19)
unfolding taken
of_independent = (refl, refl)

-- whatever follows
of_end : (taken "#EXT-X-ENDLISTS" ≡ ok (of_head end_list) 14) × (taken "#EXT-X-END\n" ≡ ok (unknown (ext (span 5 10) none)) 11)
unfolding taken
of_end = (refl, refl)

-- ---- the clips
-- no length: a comment
of_length : (taken "#EXTINF:9,a,b\nx\n" ≡ ok (of_clip (timed (extinf (ns 9000000000) (some (span 10 11))))) 12) × (taken "#EXTINF:x\n" ≡ ok (comment (some (span 1 9))) 10)
unfolding taken
of_length = (refl, refl)

of_range : (taken "#EXT-X-BYTERANGE:9@7\n" ≡ ok (of_clip (ranged (range 9 (some 7)))) 20) × (taken "#EXT-X-BYTERANGE:@7\n" ≡ ok (unknown (ext (span 5 16) (some (span 17 19)))) 20)
unfolding taken
of_range = (refl, refl)

of_map : (taken "#EXT-X-MAP:URI=\"m\"\n" ≡ ok (of_clip (mapped (ext_map (span 16 17) none (span 11 18)))) 18) × (taken "#EXT-X-MAP:URI=\"\"\nx\n" ≡ ok (unknown (ext (span 5 10) (some (span 11 17)))) 18)
unfolding taken
of_map = (refl, refl)

-- left out, but only with the colon
of_key : (taken "#EXT-X-KEY:METHOD=NONE\n" ≡ ok (left_out key) 11) × (taken "#EXT-X-KEY\n" ≡ ok (unknown (ext (span 5 10) none)) 11)
unfolding taken
of_key = (refl, refl)

-- "four tags .. each with its colon": with it each is left out, by its name; "Without the colon they are read as the crate reads them"
of_left_out : map taken ("#EXT-X-START:" ∷ "#EXT-X-KEY:" ∷ "#EXT-X-PROGRAM-DATE-TIME:" ∷ "#EXT-X-DATERANGE:" ∷ [])
    ≡ ok (left_out start) 13 ∷ ok (left_out key) 11 ∷ ok (left_out program_date_time) 25 ∷ ok (left_out date_range) 17 ∷ []
unfolding taken
of_left_out = refl

of_no_colon : map taken ("#EXT-X-START\n" ∷ "#EXT-X-PROGRAM-DATE-TIME\n" ∷ "#EXT-X-DATERANGE\n" ∷ [])
    ≡ ok (unknown (ext (span 5 12) none)) 13 ∷ ok (unknown (ext (span 5 24) none)) 25 ∷ ok (unknown (ext (span 5 16) none)) 17 ∷ []
unfolding taken
of_no_colon = refl

-- ---- what else may stand there
-- without its line end a tag is a URI, and so is a comment
of_foo : (taken "#EXT-X-FOO:a\n" ≡ ok (unknown (ext (span 5 10) (some (span 11 12)))) 13) × (taken "#EXT-X-FOO" ≡ ok (uri (span 0 10)) 10)
unfolding taken
of_foo = (refl, refl)

of_comment : (taken "#\n" ≡ ok (comment none) 2) × (taken "#a" ≡ ok (uri (span 0 2)) 2)
unfolding taken
of_comment = (refl, refl)

of_uri : (taken "a b \r\n" ≡ ok (uri (span 0 4)) 6) × (taken "a\rb\n" ≡ fail lone_cr) × (taken "" ≡ fail missing_byte)
unfolding taken
of_uri = (refl, refl, refl)

-- ---- 02, [6]: each place that reads a number, at each of its three outcomes: none, too large, a value
unfoldable outcomes : String → String → List (Res Tag)
unfolding media_playlist_tag playlist_tag media_segment_tag segment_tag other_tag ext_tag number number_or_zero parsed byte_range_val spells extmap key_value_pairs next_pair key_value_pair quoted unquoted inserted many0 many_turns is_digit decimal run_end run after_tag tagged begins
outcomes before behind = map (λ d. media_playlist_tag (bytes before ++ bytes d ++ bytes behind) 0) ("x" ∷ "18446744073709551616" ∷ "18446744073709551615" ∷ [])

-- none: an unknown tag; too large: as 0
outcomes_version : outcomes "#EXT-X-VERSION:" "\n" ≡ ok (unknown (ext (span 5 14) (some (span 15 16)))) 17 ∷ ok (of_head (version 0)) 35 ∷ ok (of_head (version (2 ^ 64 - 1))) 35 ∷ []
unfolding outcomes
outcomes_version = refl

-- none and too large: an unknown tag
outcomes_target : outcomes "#EXT-X-TARGETDURATION:" "\n"
    ≡ ok (unknown (ext (span 5 21) (some (span 22 23)))) 24 ∷ ok (unknown (ext (span 5 21) (some (span 22 42)))) 43 ∷ ok (of_head (target_duration (2 ^ 64 - 1))) 42 ∷ []
unfolding outcomes
outcomes_target = refl

outcomes_sequence : outcomes "#EXT-X-MEDIA-SEQUENCE:" "\n"
    ≡ ok (unknown (ext (span 5 21) (some (span 22 23)))) 24 ∷ ok (unknown (ext (span 5 21) (some (span 22 42)))) 43 ∷ ok (of_head (media_sequence (2 ^ 64 - 1))) 42 ∷ []
unfolding outcomes
outcomes_sequence = refl

-- none and too large: a discontinuity, which ends before `-SEQUENCE`
outcomes_discontinuity : outcomes "#EXT-X-DISCONTINUITY-SEQUENCE:" "\n" ≡ ok (of_clip discontinuity) 20 ∷ ok (of_clip discontinuity) 20 ∷ ok (of_head (discontinuity_sequence (2 ^ 64 - 1))) 50 ∷ []
unfolding outcomes
outcomes_discontinuity = refl

-- a range's length; and its offset, without which the length stands alone
outcomes_length : outcomes "#EXT-X-BYTERANGE:" "\n"
    ≡ ok (unknown (ext (span 5 16) (some (span 17 18)))) 19 ∷ ok (unknown (ext (span 5 16) (some (span 17 37)))) 38 ∷ ok (of_clip (ranged (range (2 ^ 64 - 1) none))) 37 ∷ []
unfolding outcomes
outcomes_length = refl

outcomes_offset : outcomes "#EXT-X-BYTERANGE:9@" "\n"
    ≡ ok (of_clip (ranged (range 9 none))) 18 ∷ ok (of_clip (ranged (range 9 none))) 18 ∷ ok (of_clip (ranged (range 9 (some (2 ^ 64 - 1))))) 39 ∷ []
unfolding outcomes
outcomes_offset = refl

-- the same within a map
outcomes_map_length : outcomes "#EXT-X-MAP:URI=\"m\",BYTERANGE=\"" "\"\n"
    ≡ ok (unknown (ext (span 5 10) (some (span 11 32)))) 33
    ∷ ok (unknown (ext (span 5 10) (some (span 11 51)))) 52
    ∷ ok (of_clip (mapped (ext_map (span 16 17) (some (range (2 ^ 64 - 1) none)) (span 11 51)))) 51
    ∷ []
unfolding outcomes
outcomes_map_length = refl

outcomes_map_offset : outcomes "#EXT-X-MAP:URI=\"m\",BYTERANGE=\"9@" "\"\n"
    ≡ ok (of_clip (mapped (ext_map (span 16 17) (some (range 9 none)) (span 11 34)))) 34
    ∷ ok (of_clip (mapped (ext_map (span 16 17) (some (range 9 none)) (span 11 53)))) 53
    ∷ ok (of_clip (mapped (ext_map (span 16 17) (some (range 9 (some (2 ^ 64 - 1)))) (span 11 53)))) 53
    ∷ []
unfolding outcomes
outcomes_map_offset = refl

-- ---- which alternative took it
abbrev number_in : Res Tag → Option ℕ
number_in (fail why) = none
number_in (ok t n) = some (alternative_of t)

of_number : (number_in (taken "#EXT-X-START:\n") ≡ some 6) × (number_in (taken "#EXTINF:9,\n") ≡ some 9) × (number_in (taken "#EXTINF:x\n") ≡ some 17)
unfolding taken
of_number = (refl, refl, refl)

-- ---- the first row whose fixed text stands at a text's start: its number, and what it reads or why it does not
unfoldable stands : List Row → String → Option ℕ × Res Tag
unfolding matched_row matched number parsed byte_range_val spells extmap key_value_pairs next_pair key_value_pair quoted unquoted inserted many0 many_turns is_digit decimal run_end run after_tag tagged begins
stands rows text = (matched_row rows (bytes text) 0, matched rows (bytes text) 0)

of_target_row : (stands playlist_rows "#EXT-X-TARGETDURATION:10.5\n" ≡ (some 1, ok (of_head (target_duration 10)) 24)) × (stands playlist_rows "#EXT-X-TARGETDURATION:18446744073709551616\n" ≡ (some 1, fail too_large))
unfolding stands
of_target_row = (refl, refl)

of_range_row : stands segment_rows "#EXT-X-BYTERANGE:@7\n" ≡ (some 1, fail no_digits)
unfolding stands
of_range_row = refl

of_map_row : (stands segment_rows "#EXT-X-MAP:BYTERANGE=\"9\"\n" ≡ (some 4, fail no_uri)) × (stands segment_rows "#EXT-X-MAP:URI=m\n" ≡ (some 4, fail uri_not_quoted))
unfolding stands
of_map_row = (refl, refl)

-- no row's text
of_no_row : (stands playlist_rows "#EXT-X-FOO:a\n" ≡ (none, fail other_text)) × (stands segment_rows "#EXT-X-KEY\n" ≡ (none, fail other_text))
unfolding stands
of_no_row = (refl, refl)

-- ---- a step drops the blanks after what it took
of_step : (step (bytes "a\n \t\r\nb") 0 ≡ ok (took 0 (uri (span 0 1))) 6) × (step (bytes "a\n \t\r\nb") 6 ≡ ok (took 6 (uri (span 6 7))) 7)
unfolding step media_playlist_tag playlist_tag media_segment_tag segment_tag other_tag ext_tag comment_tag consume_line run_end run tagged begins
of_step = (refl, refl)
