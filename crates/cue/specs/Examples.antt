-- 01's own list as a cue file, and texts that are refused, by computation over the rules. Assumes nothing.
use Rattle.std.specs.Prelude.{ℕ, ◌≡◌, refl, List, [], ◌∷◌, ◌++◌, map}
use Rattle.text.specs.Nom.{bytes, is_digit, begins, tagged, after_tag, run, run_end, decimal}
use Rattle.text.specs.Many.{many0, many_turns}
use Rattle.text.specs.Utf8.{utf8_end, utf8_char, one_of, octets, octet}
use Rattle.text.specs.Util.{consume_line}
use Rattle.text.specs.BasicTags.{ext_tag, comment_tag}
use Rattle.tables.specs.Refusal.{Answer, refused, given, left_out_tag, total_too_long}
use Rattle.lengths.specs.Duration.{counted, float, duration_title_tag}
use Rattle.verdict.specs.Verdict.{master_kind, media_kind, playlist_kind, segment_kind, is_master_playlist_tag_line, first_said, verdict_from}
use Rattle.verdict.specs.Calls.{admitted, verdict_of}
use Rattle.tags.specs.Tags as tags
use Rattle.assembly.specs.Assembly.{next, last_of, clips_of}
use Rattle.media.specs.Calls.{first_step, steps_of, stop_of, unless_met, parse_media_playlist, clips_read}
use Rattle.cue_file.specs.Format.{bytes_of, uris, clips_bytes, file_of, clips_hold, file_holds}
use Rattle.read_clips.specs.Lists.{total_of}
use Rattle.cue.specs.File.{cues_from, read_file, cue_file}

abbrev texts : List (List ℕ)
texts =
    bytes "#EXTM3U\n#EXTINF:9.009,bird\na.ts\n#EXTINF:0.004,\nb.ts\n#EXTINF:3.003,\nc.ts\n"
    ∷ bytes "#EXTM3U\n"
    ∷ bytes "#EXTM3U\n#EXT-X-KEY:METHOD=NONE\n"
    ∷ bytes "#EXTM3U\n#EXTINF:1000000.000000001,\nx\n"
    ∷ []

abbrev expected : List (Answer (List ℕ))
expected =
    given
    (0 ∷ 0 ∷ 0 ∷ 0 ∷ 0 ∷ 0 ∷ 0 ∷ 0 ∷ 0 ∷ 4
    ∷ 0 ∷ 0 ∷ 0 ∷ 9 ∷ 0 ∷ 137 ∷ 84 ∷ 64 ∷ 0 ∷ 4
    ∷ 0 ∷ 0 ∷ 0 ∷ 9 ∷ 0 ∷ 198 ∷ 93 ∷ 64 ∷ 0 ∷ 4
    ∷ bytes "a.tsb.tsc.ts"
    ++ (0 ∷ 0 ∷ 0 ∷ 0 ∷ 0 ∷ 0 ∷ 0 ∷ 30 ∷ 0 ∷ 3 ∷ 0 ∷ 1 ∷ []))
    -- no clips
    ∷ given (0 ∷ 0 ∷ 0 ∷ 0 ∷ 0 ∷ 0 ∷ 0 ∷ 0 ∷ 0 ∷ 0 ∷ 0 ∷ 1 ∷ [])
    ∷ refused left_out_tag 8
    ∷ refused total_too_long 0
    ∷ []

files : map cue_file texts ≡ expected
unfolding cue_file read_file cues_from total_of file_holds clips_hold file_of clips_bytes uris bytes_of parse_media_playlist clips_read first_step steps_of stop_of unless_met next last_of clips_of tags.step tags.media_playlist_tag tags.media_segment_tag tags.playlist_tag tags.segment_tag tags.other_tag admitted verdict_of verdict_from first_said is_master_playlist_tag_line master_kind media_kind playlist_kind segment_kind duration_title_tag float counted ext_tag comment_tag consume_line utf8_end utf8_char one_of octets octet many0 many_turns is_digit begins tagged after_tag run run_end decimal
files = refl
