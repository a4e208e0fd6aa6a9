-- The smallest texts with two clips, and with one clip and its unknown tag; the most of each; the words of a clip that has everything; the order of the
-- refusals; and how much room a text needs, by computation over the rules. Assumes nothing.
use Rattle.std.specs.Prelude.{ℕ, ◌≡◌, refl, List, [], ◌∷◌, ◌++◌, map, replicate}
use Rattle.text.specs.Nom.{bytes, is_digit, begins, tagged, after_tag, run, run_end, decimal}
use Rattle.text.specs.Many.{many0, many_turns}
use Rattle.text.specs.Utf8.{utf8_end, utf8_char, one_of, octets, octet}
use Rattle.text.specs.Util.{consume_line, parsed, number, number_or_zero, byte_range_val, spells}
use Rattle.text.specs.BasicTags.{ext_tag, comment_tag, playlist_type}
use Rattle.attributes.specs.Pairs.{quoted, unquoted, key_value_pair, next_pair, key_value_pairs, inserted}
use Rattle.attributes.specs.ExtMap.{extmap}
use Rattle.lengths.specs.Duration.{counted, float, duration_title_tag}
use Rattle.lengths.specs.Binary32.{seconds_bits}
use Rattle.tables.specs.Refusal.{Answer, refused, given, text_too_long, not_utf8, no_header, is_master, left_out_tag, too_many_digits, clip_table_short, tag_table_short}
use Rattle.verdict.specs.Verdict.{master_kind, media_kind, playlist_kind, segment_kind, is_master_playlist_tag_line, first_said, verdict_from}
use Rattle.verdict.specs.Calls.{admitted, verdict_of}
use Rattle.tags.specs.Tags as tags
use Rattle.assembly.specs.Assembly.{empty_head, begin, next, last_of, clips_of, tags_of, counts, counts_of}
use Rattle.assembly.specs.Words.{clip_words_of, tag_words_of, clips_words, tags_words}
use Rattle.media.specs.Calls.{first_step, steps_of, stop_of, unless_met, Read, read, Room, room, parse_media_playlist, room_for, clips_read, tags_read}
use Rattle.media.specs.Most.{most_clips, most_tags}

-- behind `#EXTM3U` no line's end is needed, nor behind the last URI
two_clips : counts_of (last_of begin (steps_of (bytes "#EXTM3Ua\nb"))) ≡ counts 2 0 0
unfolding last_of next steps_of first_step tags.step tags.media_playlist_tag tags.media_segment_tag tags.playlist_tag tags.segment_tag tags.other_tag ext_tag comment_tag consume_line many0 many_turns begins tagged after_tag run run_end
two_clips = refl

one_tag : counts_of (last_of begin (steps_of (bytes "#EXTM3U#EXT-a\nb"))) ≡ counts 1 1 0
unfolding last_of next steps_of first_step tags.step tags.media_playlist_tag tags.media_segment_tag tags.playlist_tag tags.segment_tag tags.other_tag ext_tag comment_tag consume_line many0 many_turns begins tagged after_tag run run_end
one_tag = refl

-- of a text of 65,536 bytes
most_records : (most_clips ≡ 32765) × (most_tags ≡ 9361)
most_records = (refl, refl)

-- ---- from a text to the words of both tables: a clip that has everything, its map's list with the comma behind its last pair; and one whose only tag is the second kept
abbrev full : List ℕ
full = bytes "#EXTM3U\n#EXTINF:9,t\n#EXT-X-BYTERANGE:5@6\n#EXT-X-DISCONTINUITY\n#EXT-X-MAP:URI=\"m\",BYTERANGE=\"7@8\",\n#EXT-a:b\nu\n#EXT-c\nv\n"

everything : clips_words (clips_read full) ++ tags_words (tags_read full)
    ≡ 107 ∷ 108 ∷ 9000000000 ∷ 0x41100000 ∷ 18 ∷ 19 ∷ 63 ∷ 5 ∷ 6 ∷ 78 ∷ 79 ∷ 7 ∷ 8 ∷ 73 ∷ 97 ∷ 0 ∷ 1
    ∷ 116 ∷ 117 ∷ 0 ∷ 0 ∷ 0 ∷ 0 ∷ 0 ∷ 0 ∷ 0 ∷ 0 ∷ 0 ∷ 0 ∷ 0 ∷ 0 ∷ 0 ∷ 1 ∷ 1
    ∷ 103 ∷ 104 ∷ 105 ∷ 106
    ∷ 114 ∷ 115 ∷ 0 ∷ 0
    ∷ []
unfolding clips_read tags_read clips_words tags_words clip_words_of tag_words_of seconds_bits first_step steps_of next last_of clips_of tags_of tags.step tags.media_playlist_tag tags.media_segment_tag tags.playlist_tag tags.segment_tag tags.other_tag duration_title_tag float counted extmap key_value_pairs next_pair key_value_pair quoted unquoted inserted ext_tag comment_tag playlist_type consume_line parsed number number_or_zero byte_range_val spells many0 many_turns is_digit begins tagged after_tag run run_end decimal
everything = refl

-- ---- "Reader: 1, 2, 3, 4, then 5 or 6 whichever the reading meets first, 7, 8": in texts that also have what later ones refuse
in_order : map (λ s. parse_media_playlist (bytes s) 0 0) ("#EXTM3\n#EXT-X-STREAM-INF\nb" ∷ "#EXTM3U#EXT-X-STREAM-INF\n#EXT-X-KEY:\nb" ∷ "#EXTM3U#EXT-X-KEY:\n#EXTINF:0000000009,\nb" ∷ "#EXTM3U#EXTINF:0000000009,\n#EXT-X-KEY:\nb" ∷ [])
    ≡ refused no_header 0 ∷ refused is_master 7 ∷ refused left_out_tag 7 ∷ refused too_many_digits 7 ∷ []
unfolding parse_media_playlist unless_met first_step steps_of stop_of next last_of admitted verdict_of verdict_from first_said is_master_playlist_tag_line master_kind media_kind playlist_kind segment_kind utf8_end utf8_char one_of octets octet tags.step tags.media_playlist_tag tags.media_segment_tag tags.playlist_tag tags.segment_tag tags.other_tag duration_title_tag float counted extmap key_value_pairs next_pair key_value_pair quoted unquoted inserted ext_tag comment_tag playlist_type consume_line parsed number number_or_zero byte_range_val spells many0 many_turns is_digit begins tagged after_tag run run_end decimal
in_order = refl

-- 7 and 8: both tables one word too short, then the tags' alone, then neither
abbrev rooms_for : ℕ → ℕ → Answer Read
rooms_for = parse_media_playlist (bytes "#EXTM3U#EXT-a\nb")

rooms : rooms_for 16 3 ∷ rooms_for 17 3 ∷ rooms_for 17 4 ∷ [] ≡ refused clip_table_short 0 ∷ refused tag_table_short 0 ∷ given (read empty_head 1 1 15) ∷ []
unfolding parse_media_playlist unless_met first_step steps_of stop_of next last_of admitted verdict_of verdict_from first_said is_master_playlist_tag_line master_kind media_kind playlist_kind segment_kind utf8_end utf8_char one_of octets octet tags.step tags.media_playlist_tag tags.media_segment_tag tags.playlist_tag tags.segment_tag tags.other_tag duration_title_tag float counted extmap key_value_pairs next_pair key_value_pair quoted unquoted inserted ext_tag comment_tag playlist_type consume_line parsed number number_or_zero byte_range_val spells many0 many_turns is_digit begins tagged after_tag run run_end decimal
rooms = refl

-- ---- how much room: nothing; two clips, of which the second has two tags; tags behind the last URI are not kept; a reading that stops at a lone CR
needed : map (λ s. room_for (bytes s)) ("#EXTM3U" ∷ "#EXTM3Ua\n#EXT-b\n#EXT-c:d\ne\n" ∷ "#EXTM3U#EXT-a\nb\n#EXT-c\n#EXT-d\n" ∷ "#EXTM3Ua\n#EXT-b\n\rc\rd\n" ∷ [])
    ≡ given (room 0 0) ∷ given (room 2 2) ∷ given (room 1 1) ∷ given (room 1 0) ∷ []
unfolding room_for unless_met first_step steps_of next last_of admitted verdict_of verdict_from first_said is_master_playlist_tag_line master_kind media_kind playlist_kind segment_kind utf8_end utf8_char one_of octets octet tags.step tags.media_playlist_tag tags.media_segment_tag tags.playlist_tag tags.segment_tag tags.other_tag duration_title_tag float counted extmap key_value_pairs next_pair key_value_pair quoted unquoted inserted ext_tag comment_tag playlist_type consume_line parsed number number_or_zero byte_range_val spells many0 many_turns is_digit begins tagged after_tag run run_end decimal
needed = refl

-- each refusal, 1 to 6, in texts that also have what later ones refuse
abbrev unread : List (Answer Room)
unread = room_for (replicate 65537 0xFF) ∷ room_for (bytes "#EXTM3" ++ (0xFF ∷ [])) ∷ map (λ s. room_for (bytes s)) ("#EXTM3\n#EXT-X-STREAM-INF\nb" ∷ "#EXTM3U#EXT-X-STREAM-INF\n#EXT-X-KEY:\nb" ∷ "#EXTM3Ua\n#EXT-X-KEY:\n#EXTINF:0000000009,\nb" ∷ "#EXTM3Ua\n#EXTINF:0000000009,\n#EXT-X-KEY:\nb" ∷ [])

none_needed : unread ≡ refused text_too_long 0 ∷ refused not_utf8 6 ∷ refused no_header 0 ∷ refused is_master 7 ∷ refused left_out_tag 9 ∷ refused too_many_digits 9 ∷ []
unfolding room_for unless_met first_step steps_of next last_of admitted verdict_of verdict_from first_said is_master_playlist_tag_line master_kind media_kind playlist_kind segment_kind utf8_end utf8_char one_of octets octet tags.step tags.media_playlist_tag tags.media_segment_tag tags.playlist_tag tags.segment_tag tags.other_tag duration_title_tag float counted extmap key_value_pairs next_pair key_value_pair quoted unquoted inserted ext_tag comment_tag playlist_type consume_line parsed number number_or_zero byte_range_val spells many0 many_turns is_digit begins tagged after_tag run run_end decimal
none_needed = refl
