-- Worked examples, by computation, from 01's edges and readings. Assumes nothing.
use Rattle.std.specs.Prelude.{ℕ, ◌+◌, ◌-◌, ◌≡◌, refl, true, false, List, [], ◌∷◌, ◌++◌, map, length, take, replicate}
use Prim.Native.String.{String}
use Rattle.text.specs.Why.{other_text}
use Rattle.text.specs.Nom.{Res, fail, ok, bytes, begins, tagged, run, run_end}
use Rattle.text.specs.Many.{many0, many_turns}
use Rattle.text.specs.Util.{consume_line}
use Rattle.text.specs.Utf8.{utf8_char, one_of, octets, octet, utf8_end}
use Rattle.tables.specs.Refusal.{refused, given, text_too_long, not_utf8, no_header}
use Rattle.verdict.specs.Verdict.{master_kind, playlist_kind, segment_kind, media_kind, Says, nothing, decides, is_master_playlist_tag_line, Verdict, master, media, first_said, verdict_from}
use Rattle.verdict.specs.Calls.{verdict_of, admitted, is_master_playlist}

-- ---- the eighteen texts: what a line says that begins so
abbrev line : List ℕ → Res Says
line t = is_master_playlist_tag_line (t ++ bytes ":1\n") 0

abbrev master_texts : List (List ℕ)
master_texts = map bytes ("#EXT-X-STREAM-INF" ∷ "#EXT-X-I-FRAME-STREAM-INF" ∷ "#EXT-X-MEDIA" ∷ "#EXT-X-SESSION-KEY" ∷ "#EXT-X-SESSION-DATA" ∷ [])

abbrev media_texts : List (List ℕ)
media_texts =
    map bytes
    ("#EXT-X-TARGETDURATION"
    ∷ "#EXT-X-MEDIA-SEQUENCE"
    ∷ "#EXT-X-ENDLIST"
    ∷ "#EXT-X-PLAYLIST-TYPE"
    ∷ "#EXT-X-I-FRAMES-ONLY"
    ∷ "#EXTINF"
    ∷ "#EXT-X-BYTERANGE"
    ∷ "#EXT-X-DISCONTINUITY"
    ∷ "#EXT-X-KEY"
    ∷ "#EXT-X-MAP"
    ∷ "#EXT-X-PROGRAM-DATE-TIME"
    ∷ "#EXT-X-DATERANGE"
    ∷ [])

masters : map line master_texts ≡ map (λ t. ok (decides true 0) (length t + 3)) master_texts
unfolding is_master_playlist_tag_line master_kind media_kind playlist_kind segment_kind consume_line run_end run tagged begins
masters = refl

medias : map line media_texts ≡ map (λ t. ok (decides false 0) (length t + 3)) media_texts
unfolding is_master_playlist_tag_line master_kind media_kind playlist_kind segment_kind consume_line run_end run tagged begins
medias = refl

-- without its last byte none of them says anything
abbrev cut : List ℕ → List ℕ
cut t = take (length t - 1) t

misspelt : map line (map cut (master_texts ++ media_texts)) ≡ map (λ t. ok nothing (length t + 2)) (master_texts ++ media_texts)
unfolding is_master_playlist_tag_line master_kind media_kind playlist_kind segment_kind consume_line run_end run tagged begins
misspelt = refl

-- the eighteenth begins with another of them, and so does what is left of it
longer : map line (map bytes ("#EXT-X-DISCONTINUITY-SEQUENCE" ∷ "#EXT-X-DISCONTINUITY-SEQUENC" ∷ [])) ≡ ok (decides false 0) 32 ∷ ok (decides false 0) 31 ∷ []
unfolding is_master_playlist_tag_line master_kind media_kind playlist_kind segment_kind consume_line run_end run tagged begins
longer = refl

-- in its own group, where that other is not, it is told apart
eighteenth : map (λ s. playlist_kind (bytes s) 0) ("#EXT-X-DISCONTINUITY-SEQUENCE" ∷ "#EXT-X-DISCONTINUITY-SEQUENC" ∷ []) ≡ ok false 29 ∷ fail other_text ∷ []
unfolding playlist_kind tagged begins
eighteenth = refl

-- ---- 01's M: a text behind `#EXTM3U` and its line feed
abbrev verdict_m : String → Verdict
verdict_m s = verdict_of (bytes "#EXTM3U\n" ++ bytes s)

-- * M`#EXT-X-MEDIA\n`: 4 at 8; at the text's end, or before a `-`, it says nothing
media_tag : map verdict_m ("#EXT-X-MEDIA\n" ∷ "#EXT-X-MEDIA" ∷ "#EXT-X-MEDIA-" ∷ "#EXT-X-MEDIA-\n" ∷ []) ≡ master 8 ∷ media ∷ media ∷ media ∷ []
unfolding verdict_of verdict_from first_said many0 many_turns is_master_playlist_tag_line master_kind media_kind playlist_kind segment_kind consume_line run_end run tagged begins
media_tag = refl

-- its run goes to the next `-`, across lines, or to the text's end; the rest of that line must be there to be taken
media_run : map verdict_m ("#EXT-X-MEDIA:a\rb-c\n" ∷ "#EXT-X-MEDIA:a-b\rc\n" ∷ "#EXT-X-MEDIA:a\nb\rc\n" ∷ []) ≡ master 8 ∷ media ∷ master 8 ∷ []
unfolding verdict_of verdict_from first_said many0 many_turns is_master_playlist_tag_line master_kind media_kind playlist_kind segment_kind consume_line run_end run tagged begins
media_run = refl

-- the first line that tells decides; spaces at a line's start are not skipped
first_line : map verdict_m ("#EXT-X-START:a\n#EXT-X-STREAM-INF\n" ∷ "#EXT-X-KEY:a\n#EXT-X-STREAM-INF\n" ∷ " #EXT-X-STREAM-INF\n" ∷ "" ∷ []) ≡ master 23 ∷ media ∷ media ∷ media ∷ []
unfolding verdict_of verdict_from first_said many0 many_turns is_master_playlist_tag_line master_kind media_kind playlist_kind segment_kind consume_line run_end run tagged begins
first_line = refl

-- * empty: 3 at 0
calls : map (λ s. is_master_playlist (bytes s)) ("" ∷ "#EXTM3" ∷ "#EXTM3U" ∷ "#EXTM3U\n#EXT-X-STREAM-INF\n" ∷ []) ≡ refused no_header 0 ∷ refused no_header 0 ∷ given false ∷ given true ∷ []
unfolding is_master_playlist admitted verdict_of verdict_from first_said many0 many_turns is_master_playlist_tag_line master_kind media_kind playlist_kind segment_kind consume_line utf8_end utf8_char one_of octets octet run_end run tagged begins
calls = refl

-- "Verdict alone: 1, 2, 3": one byte above the limit, the limit itself, a byte that ends UTF-8 in a text without a header, and UTF-8 without a header
in_order : map admitted (replicate 65537 0xFF ∷ replicate 65536 0xFF ∷ (bytes "a" ++ (0xFF ∷ [])) ∷ bytes "a" ∷ []) ≡ refused text_too_long 0 ∷ refused not_utf8 0 ∷ refused not_utf8 1 ∷ refused no_header 0 ∷ []
unfolding admitted many0 many_turns utf8_end utf8_char one_of octets octet tagged begins
in_order = refl
