-- 01's turn sheet as a cue file, byte by byte, and what the reader makes of it and of files that are not quite it; both sides of each limit. By computation over
-- the rules. Assumes nothing.
use Rattle.std.specs.Prelude.{◌≡◌, refl, true, false, List, [], ◌∷◌, ◌++◌, map, ℕ, ◌-◌, ◌^◌, replicate, set, take, drop}
use Rattle.text.specs.Nom.{bytes, span}
use Rattle.tables.specs.Layout as layout
use Rattle.tables.specs.Table.{every, listed, fits}
use Rattle.tables.specs.Refusal.{Answer, given, refused, laid, text_too_long, broken_table, total_too_long, output_short, no_such_clip, file_too_short, other_version, not_exact, bad_start, too_wide}
use Rattle.clock.specs.Clock as clock
use Rattle.cue_file.specs.Format.{bytes_of, value_at, version1, uris, clips_bytes, file_of, clips_hold, file_holds}
use Rattle.cue_file.specs.Write.{keeps_rule, list_keeps, written, cue_write}
use Rattle.cue_file.specs.Read.{found, cursor, done, clip, lengths_in, fits_exactly, start_keeps, judged, cue_read, cues, next}

-- "high byte first"
high_first : bytes_of 4 16909060 ≡ 1 ∷ 2 ∷ 3 ∷ 4 ∷ []
unfolding bytes_of
high_first = refl

values : map (λ width. value_at width (9 ∷ 1 ∷ 2 ∷ 3 ∷ 4 ∷ []) 1) (0 ∷ 1 ∷ 2 ∷ 4 ∷ []) ≡ 0 ∷ 1 ∷ 258 ∷ 16909060 ∷ []
unfolding value_at
values = refl

-- ---- 01's clips of 9.009, 0.004 and 3.003 s
abbrev text : List ℕ
text = bytes "#EXTM3U\n#EXTINF:9.009,bird\na.ts\n#EXTINF:0.004,\nb.ts\n#EXTINF:3.003,\nc.ts\n"

-- a record of zeros but for its URI and its length
abbrev clip_of : ℕ → ℕ → ℕ → List ℕ
clip_of start end ns = set (set (set (replicate layout.clip_words 0) layout.uri_start start) layout.uri_end end) layout.length_ns ns

abbrev table : List ℕ
table = clip_of 27 31 9009000000 ++ (clip_of 47 51 4000000 ++ clip_of 67 71 3003000000)

-- starts at 0 s, 9 s and 9,000,000 ns, 9 s and 13,000,000 ns; the URIs from byte 30 on
abbrev file : List ℕ
file =
    0 ∷ 0 ∷ 0 ∷ 0 ∷ 0 ∷ 0 ∷ 0 ∷ 0 ∷ 0 ∷ 4
    ∷ 0 ∷ 0 ∷ 0 ∷ 9 ∷ 0 ∷ 137 ∷ 84 ∷ 64 ∷ 0 ∷ 4
    ∷ 0 ∷ 0 ∷ 0 ∷ 9 ∷ 0 ∷ 198 ∷ 93 ∷ 64 ∷ 0 ∷ 4
    ∷ 97 ∷ 46 ∷ 116 ∷ 115
    ∷ 98 ∷ 46 ∷ 116 ∷ 115
    ∷ 99 ∷ 46 ∷ 116 ∷ 115
    ∷ 0 ∷ 0 ∷ 0 ∷ 0 ∷ 0 ∷ 0 ∷ 0 ∷ 30 ∷ 0 ∷ 3 ∷ 0 ∷ 1 ∷ []

sheet : written text table version1 3 ≡ file
unfolding file_of clips_bytes uris bytes_of listed clock.sum_lengths
sheet = refl

-- 54 bytes are enough, 53 are not, and a byte more stays as it was
abbrev after : ℕ → List ℕ
after n = laid (cue_write text table version1 3 (replicate n 7)) file (replicate n 7)

outputs : map after (54 ∷ 53 ∷ 55 ∷ []) ≡ file ∷ replicate 53 7 ∷ (file ++ 7 ∷ []) ∷ []
unfolding cue_write list_keeps keeps_rule clock.keeps_rule clock.sum_lengths every fits file_holds clips_hold file_of clips_bytes uris bytes_of listed
outputs = refl

reads : map (cue_read version1 file) (0 ∷ 1 ∷ 2 ∷ 3 ∷ [])
    ≡ given (found 0 (span 30 34) 3) ∷ given (found 9009000000 (span 34 38) 3) ∷ given (found 9013000000 (span 38 42) 3) ∷ refused no_such_clip 0 ∷ []
unfolding cue_read judged fits_exactly lengths_in start_keeps every value_at
reads = refl

passes : cues version1 file ≡ given (cursor 3 0 30)
unfolding cues judged fits_exactly lengths_in start_keeps every value_at
passes = refl

steps : map (next version1 file) (cursor 3 0 30 ∷ cursor 3 1 34 ∷ cursor 3 2 38 ∷ cursor 3 3 42 ∷ cursor 6 5 0 ∷ cursor 3 2 51 ∷ [])
    ≡ given (clip 0 0 (span 30 34) (cursor 3 1 34))
    ∷ given (clip 1 9009000000 (span 34 38) (cursor 3 2 38))
    ∷ given (clip 2 9013000000 (span 38 42) (cursor 3 3 42))
    ∷ given done
    ∷ refused not_exact 0
    ∷ refused not_exact 0
    ∷ []
unfolding next value_at
steps = refl

-- "No clips: twelve bytes, which the reader takes, and answers 14 to every clip"
no_clips : written text [] version1 0 ≡ 0 ∷ 0 ∷ 0 ∷ 0 ∷ 0 ∷ 0 ∷ 0 ∷ 0 ∷ 0 ∷ 0 ∷ 0 ∷ 1 ∷ []
unfolding file_of clips_bytes uris bytes_of listed
no_clips = refl

no_clip : map (cue_read version1 (replicate 11 0 ++ 1 ∷ [])) (0 ∷ (2 ^ 64 - 1) ∷ []) ≡ refused no_such_clip 0 ∷ refused no_such_clip 0 ∷ []
unfolding cue_read judged fits_exactly lengths_in start_keeps every value_at
no_clip = refl

-- ---- the reader's refusals
-- 19: eleven bytes, whatever they are
short : map (λ n. cue_read version1 (replicate n 1) 0) (0 ∷ 11 ∷ []) ≡ refused file_too_short 0 ∷ refused file_too_short 0 ∷ []
unfolding cue_read judged
short = refl

-- one byte of the example changed: the version's low byte (20) and high byte (20), the count (21), the place of the URIs (21) and of the records (21), a URI's
-- length (21), the first start (22), the second one to 8 s and to 10 s (22, it then falls after), ns of 10^9 and more (22), a URI's byte (none)
changed : map (λ (c : List ℕ). cue_read version1 c 2)
    (set file 53 2 ∷ set file 52 1 ∷ set file 51 2 ∷ set file 49 29 ∷ set file 45 1 ∷ set file 29 3 ∷ set file 7 1 ∷ set file 23 8 ∷ set file 13 10 ∷ set file 24 59 ∷ set file 41 0 ∷ [])
    ≡ refused other_version 0 ∷ refused other_version 0 ∷ refused not_exact 0 ∷ refused not_exact 0 ∷ refused not_exact 0 ∷ refused not_exact 0 ∷ refused bad_start 0 ∷ refused bad_start 0 ∷ refused bad_start 0 ∷ refused bad_start 0 ∷ given (found 9013000000 (span 38 42) 3) ∷ []
unfolding cue_read judged fits_exactly lengths_in start_keeps every value_at
changed = refl

-- a byte added, a byte cut
lengths : map (λ (c : List ℕ). cue_read version1 c 2) ((0 ∷ file) ∷ drop 1 file ∷ (take 30 file ++ (0 ∷ drop 30 file)) ∷ (take 41 file ++ drop 42 file) ∷ [])
    ≡ refused not_exact 0 ∷ refused not_exact 0 ∷ refused not_exact 0 ∷ refused not_exact 0 ∷ []
unfolding cue_read judged fits_exactly lengths_in start_keeps every value_at
lengths = refl

-- two clips without a URI, the second at these seconds and ns: "Equal starts are fine; exactly 1,000,000 s is fine; ns of 10^9 are refused, not carried"
abbrev at : ℕ → ℕ → List ℕ
at seconds ns = replicate 10 0 ++ (bytes_of 4 seconds ++ (bytes_of 4 ns ++ (0 ∷ 0 ∷ 0 ∷ 0 ∷ 0 ∷ 0 ∷ 0 ∷ 0 ∷ 0 ∷ 20 ∷ 0 ∷ 2 ∷ 0 ∷ 1 ∷ [])))

starts : map (λ (c : List ℕ). cue_read version1 c 1) (at 0 0 ∷ at 1000000 0 ∷ at 1000000 1 ∷ at 1000001 0 ∷ at 0 999999999 ∷ at 0 1000000000 ∷ at 4294967295 4294967295 ∷ [])
    ≡ given (found 0 (span 20 20) 2) ∷ given (found (10 ^ 15) (span 20 20) 2) ∷ refused bad_start 0 ∷ refused bad_start 0 ∷ given (found 999999999 (span 20 20) 2) ∷ refused bad_start 0 ∷ refused bad_start 0 ∷ []
unfolding bytes_of cue_read judged fits_exactly lengths_in start_keeps every value_at
starts = refl

-- 20 before 21 before 22 before 14: all of them wrong, then one less each time
in_order : map (λ (c : List ℕ). cue_read version1 c 2) (set (set (at 0 1000000000) 31 2) 27 0 ∷ set (at 0 1000000000) 27 0 ∷ at 0 1000000000 ∷ at 0 0 ∷ [])
    ≡ refused other_version 0 ∷ refused not_exact 0 ∷ refused bad_start 0 ∷ refused no_such_clip 0 ∷ []
unfolding bytes_of cue_read judged fits_exactly lengths_in start_keeps every value_at
in_order = refl

-- ---- the writer's refusals
abbrev writes : List ℕ → List ℕ → ℕ → Answer ℕ
writes txt t n = cue_write txt t version1 n []

-- 1 before 9: a text of 65,537 bytes and of 65,536, over a count that does not fit
text_first : map (λ n. writes (replicate n 97) [] 1) (65537 ∷ 65536 ∷ []) ≡ refused text_too_long 0 ∷ refused broken_table 0 ∷ []
unfolding cue_write list_keeps keeps_rule clock.keeps_rule fits
text_first = refl

-- 9: the count, a length of 10^18, a span past the text, a reversed one; the last byte of the text may end one
rule_9 : writes text table 4 ∷ map (λ (c : List ℕ). writes (bytes "abc") c 1) (clip_of 0 3 (10 ^ 18) ∷ clip_of 0 4 0 ∷ clip_of 2 1 0 ∷ clip_of 4 4 0 ∷ clip_of 0 3 (10 ^ 18 - 1) ∷ clip_of 3 3 0 ∷ [])
    ≡ refused broken_table 0 ∷ refused broken_table 0 ∷ refused broken_table 0 ∷ refused broken_table 0 ∷ refused broken_table 0 ∷ refused total_too_long 0 ∷ refused output_short 0 ∷ []
unfolding cue_write list_keeps keeps_rule clock.keeps_rule clock.sum_lengths every fits file_holds clips_hold file_of clips_bytes uris bytes_of listed
rule_9 = refl

-- 11: "still counts the last length"
totals : map (λ ns. writes (bytes "abc") (clip_of 0 1 1 ++ clip_of 0 1 ns) 2) ((10 ^ 15 - 1) ∷ (10 ^ 15) ∷ []) ≡ refused output_short 0 ∷ refused total_too_long 0 ∷ []
unfolding cue_write list_keeps keeps_rule clock.keeps_rule clock.sum_lengths every fits file_holds clips_hold file_of clips_bytes uris bytes_of listed
totals = refl

-- 33, "after 11, before 10": a URI of 65,536 bytes, and of 65,535
wide : map (λ n. writes (replicate 65536 97) (clip_of 0 n 0) 1) (65536 ∷ 65535 ∷ []) ≡ refused too_wide 0 ∷ refused output_short 0 ∷ []
unfolding cue_write list_keeps keeps_rule clock.keeps_rule clock.sum_lengths every fits file_holds clips_hold file_of clips_bytes uris bytes_of listed
wide = refl

-- and counts of 65,536 and 65,535
counts : map (λ n. file_holds version1 (replicate n (record { start = 0; uri = [] }))) (65536 ∷ 65535 ∷ []) ≡ false ∷ true ∷ []
unfolding file_holds clips_hold
counts = refl

-- the seconds are cut, not rounded: the second clip starts at 1 s and 600,000,000 ns
cut : written [] (clip_of 0 0 1600000000 ++ clip_of 0 0 0) version1 2
    ≡ replicate 10 0 ++ (0 ∷ 0 ∷ 0 ∷ 1 ∷ 35 ∷ 195 ∷ 70 ∷ 0 ∷ 0 ∷ 0 ∷ 0 ∷ 0 ∷ 0 ∷ 0 ∷ 0 ∷ 0 ∷ 0 ∷ 20 ∷ 0 ∷ 2 ∷ 0 ∷ 1 ∷ [])
unfolding file_of clips_bytes uris bytes_of listed clock.sum_lengths
cut = refl

-- "Spans may overlap (`ab`, `bc` in `abc`)"
overlaps : written (bytes "abc") (clip_of 0 2 5 ++ clip_of 1 3 0) version1 2
    ≡ (0 ∷ 0 ∷ 0 ∷ 0 ∷ 0 ∷ 0 ∷ 0 ∷ 0 ∷ 0 ∷ 2 ∷ 0 ∷ 0 ∷ 0 ∷ 0 ∷ 0 ∷ 0 ∷ 0 ∷ 5 ∷ 0 ∷ 2 ∷ [])
    ++ (bytes "abbc" ++ (0 ∷ 0 ∷ 0 ∷ 0 ∷ 0 ∷ 0 ∷ 0 ∷ 20 ∷ 0 ∷ 2 ∷ 0 ∷ 1 ∷ []))
unfolding file_of clips_bytes uris bytes_of listed clock.sum_lengths
overlaps = refl
