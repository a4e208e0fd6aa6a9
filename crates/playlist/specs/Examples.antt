-- Worked examples, by computation: a text with every kind of line, each playlist type, and the order of the refusals. Assumes nothing.
use Rattle.std.specs.Prelude.{ℕ, ◌≡◌, refl, true, false, List, [], ◌∷◌, ◌++◌, map, replicate}
use Rattle.std.proofs.Math.Option.{none, some}
use Rattle.text.specs.Nom.{span, bytes}
use Rattle.text.specs.BasicTags.{event, vod, other}
use Rattle.text.specs.Lines.{unlines}
use Rattle.digits.specs.Digits.{digits_by, number_text, fraction_by, fraction_text, length_text}
use Rattle.tables.specs.Table.{every, fits, listed, has_flag}
use Rattle.tables.specs.Refusal.{refused, given, text_too_long, broken_table, output_short}
use Rattle.assembly.specs.Assembly.{head, empty_head}
use Rattle.records.specs.Records.{part_at, range_at, map_at, clip_at, tag_at}
use Rattle.rule9.specs.Rule9.{runs_adjoin, tags_up_to, keeps_rule}
use Rattle.playlist.specs.Lines.{head_lines, clip_lines, clips_lines, playlist_lines, playlist_text}
use Rattle.playlist.specs.Calls.{written_text, write_to}

-- a clip that has everything; one whose range has no offset and whose map no range; one that has a URI alone
abbrev clips : List ℕ
clips =
    (0 ∷ 1 ∷ 9009000000 ∷ 0x411024DD ∷ 1 ∷ 2 ∷ 63 ∷ 5 ∷ 6 ∷ 2 ∷ 3 ∷ 7 ∷ 8 ∷ 2 ∷ 3 ∷ 0 ∷ 2 ∷ [])
    ++ ((6 ∷ 7 ∷ 100000000 ∷ 0x3DCCCCCD ∷ 0 ∷ 0 ∷ 9 ∷ 5 ∷ 0 ∷ 2 ∷ 3 ∷ 0 ∷ 0 ∷ 2 ∷ 3 ∷ 2 ∷ 0 ∷ [])
    ++ (7 ∷ 8 ∷ 0 ∷ 0 ∷ 0 ∷ 0 ∷ 0 ∷ 0 ∷ 0 ∷ 0 ∷ 0 ∷ 0 ∷ 0 ∷ 0 ∷ 0 ∷ 2 ∷ 0 ∷ []))

-- 01, "Writing": "Order and lines as `write_to`, LF only"
every_line :
    written_text (bytes "utmabcvwLIVE") (head (some 3) 10 7 4 (some (other (span 8 12))) true true true) clips 3 (3 ∷ 4 ∷ 4 ∷ 5 ∷ 5 ∷ 6 ∷ 0 ∷ 0 ∷ []) 2
    ≡ bytes "#EXTM3U\n#EXT-X-VERSION:3\n#EXT-X-INDEPENDENT-SEGMENTS\n#EXT-X-TARGETDURATION:10\n"
    ++ (bytes "#EXT-X-MEDIA-SEQUENCE:7\n#EXT-X-DISCONTINUITY-SEQUENCE:4\n#EXT-X-PLAYLIST-TYPE:LIVE\n#EXT-X-I-FRAMES-ONLY\n"
    ++ (bytes "#EXT-X-MAP:URI=\"m\",BYTERANGE=\"7@8\"\n#EXT-X-BYTERANGE:5@6\n#EXT-X-DISCONTINUITY\n#EXT-a:b\n#EXT-c\n#EXTINF:9.009,t\nu\n"
    ++ (bytes "#EXT-X-MAP:URI=\"m\"\n#EXT-X-BYTERANGE:5\n#EXTINF:0.1,\nv\n"
    ++ bytes "#EXTINF:0,\nw\n#EXT-X-ENDLIST\n")))
unfolding written_text playlist_text playlist_lines head_lines clips_lines clip_lines unlines listed clip_at map_at range_at part_at tag_at has_flag length_text number_text digits_by fraction_text fraction_by
every_line = refl

-- what is not there has no line; "a playlist type is its text"
few_lines : map (λ t. written_text [] (head none 0 0 0 t false false false) [] 0 [] 0) (none ∷ some event ∷ some vod ∷ [])
    ≡ bytes "#EXTM3U\n#EXT-X-TARGETDURATION:0\n"
    ∷ bytes "#EXTM3U\n#EXT-X-TARGETDURATION:0\n#EXT-X-PLAYLIST-TYPE:EVENT\n"
    ∷ bytes "#EXTM3U\n#EXT-X-TARGETDURATION:0\n#EXT-X-PLAYLIST-TYPE:VOD\n"
    ∷ []
unfolding written_text playlist_text playlist_lines head_lines clips_lines unlines listed number_text digits_by
few_lines = refl

-- "Writer: 1, 9, 10": a count that doesn't fit beside a text above the limit, then beside an output of no bytes; an output one byte short, and one of all 32
in_order : write_to (replicate 65537 0) empty_head [] 1 [] 0 0 ∷ write_to [] empty_head [] 1 [] 0 0 ∷ map (write_to [] empty_head [] 0 [] 0) (31 ∷ 32 ∷ [])
    ≡ refused text_too_long 0 ∷ refused broken_table 0 ∷ refused output_short 0 ∷ given 32 ∷ []
unfolding write_to keeps_rule fits every runs_adjoin tags_up_to written_text playlist_text playlist_lines head_lines clips_lines unlines listed number_text digits_by
in_order = refl
