-- 01's own sheet, and texts that are refused, by computation over the rules. Assumes nothing.
use Rattle.std.specs.Prelude.{ℕ, ◌≡◌, refl, List, [], ◌∷◌, map}
use Rattle.text.specs.Nom.{bytes, is_digit, begins, tagged, after_tag, run, run_end, decimal}
use Rattle.text.specs.Many.{many0, many_turns}
use Rattle.text.specs.Utf8.{utf8_end, utf8_char, one_of, octets, octet}
use Rattle.text.specs.Util.{consume_line}
use Rattle.text.specs.BasicTags.{ext_tag, comment_tag}
use Rattle.lengths.specs.Duration.{counted, float, duration_title_tag}
use Rattle.digits.specs.Digits.{digits_by, number_text}
use Rattle.verdict.specs.Verdict.{master_kind, media_kind, playlist_kind, segment_kind, is_master_playlist_tag_line, first_said, verdict_from}
use Rattle.verdict.specs.Calls.{admitted, verdict_of}
use Rattle.tags.specs.Tags as tags
use Rattle.assembly.specs.Assembly.{next, last_of, clips_of}
use Rattle.media.specs.Calls.{first_step, steps_of, stop_of, unless_met, parse_media_playlist, clips_read}
use Rattle.clock.specs.Clock.{tick_of}
use Rattle.read_clips.specs.Lists.{total_of}
use Rattle.printing.specs.Lines.{number_line, field, refused_line}
use Rattle.sheet.specs.Sheet.{clip_line, total_line, clip_lines, sheet_of, read_sheet, sheet_text}

abbrev texts : List (List ℕ)
texts =
    bytes "#EXTM3U\n#EXTINF:9.009,bird\na.ts\n#EXTINF:0.004,\nb.ts\n#EXTINF:3.003,\nc.ts\n"
    ∷ bytes "#EXTM3U\n#EXT-X-KEY:METHOD=NONE\n"
    ∷ bytes "#EXTM3U\n#EXTINF:1000000,\nx\n"
    ∷ bytes "#EXTM3U\n#EXTINF:1000000.000000001,\nx\n"
    ∷ []

abbrev expected : List (List ℕ)
expected =
    -- "Output whole"
    bytes "clip\tstart\tlength\ttick\turi\n0\t0\t9009000000\t0\ta.ts\n1\t9009000000\t4000000\t900\tb.ts\n2\t9013000000\t3003000000\t901\tc.ts\ntotal\t12016000000\n"
    -- "A refusal prints only `refused 5 at 8` with its own numbers."
    ∷ bytes "refused 5 at 8\n"
    -- both sides of "total above 10^15 ns"
    ∷ bytes "clip\tstart\tlength\ttick\turi\n0\t0\t1000000000000000\t0\tx\ntotal\t1000000000000000\n"
    ∷ bytes "refused 11 at 0\n"
    ∷ []

sheets : map sheet_text texts ≡ expected
unfolding sheet_text read_sheet sheet_of total_of clip_lines total_line clip_line refused_line field number_line tick_of number_text digits_by parse_media_playlist clips_read first_step steps_of stop_of unless_met next last_of clips_of tags.step tags.media_playlist_tag tags.media_segment_tag tags.playlist_tag tags.segment_tag tags.other_tag admitted verdict_of verdict_from first_said is_master_playlist_tag_line master_kind media_kind playlist_kind segment_kind duration_title_tag float counted ext_tag comment_tag consume_line utf8_end utf8_char one_of octets octet many0 many_turns is_digit begins tagged after_tag run run_end decimal
sheets = refl
