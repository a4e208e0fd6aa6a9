-- Worked examples, by computation: for each rule a text that it takes and one that it refuses. Assumes nothing.
use Rattle.std.specs.Prelude.{ℕ, ◌^◌, ◌-◌, true, false, ◌≡◌, refl, List, [], ◌∷◌, map, replicate}
use Rattle.std.proofs.Math.Option.{none, some}
use Rattle.text.specs.Why.{other_text, no_digits, too_large, missing_byte, type_empty, name_empty, lone_cr}
use Rattle.text.specs.Nom.{fail, ok, span, bytes, is_digit, begins, tagged, after_tag, run, run_end, decimal}
use Rattle.text.specs.Many.{many0, many_turns}
use Rattle.text.specs.Utf8.{utf8_end, utf8_char, one_of, octets, octet}
use Rattle.text.specs.Util.{consume_line, fits, large, parsed, number, number_or_zero, byte_range_val, range, spells}
use Rattle.text.specs.BasicTags.{m3u_tag, ext_tag, ext, comment_tag, playlist_type, event, vod, other}

-- ---- UTF-8
-- RFC 3629, section 7, "Examples": A<NOT IDENTICAL TO><ALPHA>., the Korean "hangugeo", the Japanese "nihongo", and U+233B4 behind a byte order mark
rfc_texts :
    (utf8_end (0x41 ∷ 0xE2 ∷ 0x89 ∷ 0xA2 ∷ 0xCE ∷ 0x91 ∷ 0x2E ∷ []) 0 ≡ 7)
    × (utf8_end (0xED ∷ 0x95 ∷ 0x9C ∷ 0xEA ∷ 0xB5 ∷ 0xAD ∷ 0xEC ∷ 0x96 ∷ 0xB4 ∷ []) 0 ≡ 9)
    × (utf8_end (0xE6 ∷ 0x97 ∷ 0xA5 ∷ 0xE6 ∷ 0x9C ∷ 0xAC ∷ 0xE8 ∷ 0xAA ∷ 0x9E ∷ []) 0 ≡ 9)
    × (utf8_end (0xEF ∷ 0xBB ∷ 0xBF ∷ 0xF0 ∷ 0xA3 ∷ 0x8E ∷ 0xB4 ∷ []) 0 ≡ 7)
unfolding utf8_end many0 many_turns utf8_char one_of octets octet
rfc_texts = (refl, refl, refl, refl)

-- RFC 3629, section 10: "the two-octet sequence C0 80", "2F C0 AE 2E 2F"
rfc_illegal : (utf8_end (0xC0 ∷ 0x80 ∷ []) 0 ≡ 0) × (utf8_end (0x2F ∷ 0xC0 ∷ 0xAE ∷ 0x2E ∷ 0x2F ∷ []) 0 ≡ 1)
unfolding utf8_end many0 many_turns utf8_char one_of octets octet
rfc_illegal = (refl, refl)

-- each bound of a second byte that is not a tail's, on both sides: below U+0800 and U+10000 two and three bytes are enough, D800 to DFFF are surrogates, and
-- 10FFFF is the last character
e0_from : (utf8_end (0xE0 ∷ 0xA0 ∷ 0x80 ∷ []) 0 ≡ 3) × (utf8_end (0xE0 ∷ 0x9F ∷ 0xBF ∷ []) 0 ≡ 0)
unfolding utf8_end many0 many_turns utf8_char one_of octets octet
e0_from = (refl, refl)

ed_upto : (utf8_end (0xED ∷ 0x9F ∷ 0xBF ∷ []) 0 ≡ 3) × (utf8_end (0xED ∷ 0xA0 ∷ 0x80 ∷ []) 0 ≡ 0)
unfolding utf8_end many0 many_turns utf8_char one_of octets octet
ed_upto = (refl, refl)

f0_from : (utf8_end (0xF0 ∷ 0x90 ∷ 0x80 ∷ 0x80 ∷ []) 0 ≡ 4) × (utf8_end (0xF0 ∷ 0x8F ∷ 0xBF ∷ 0xBF ∷ []) 0 ≡ 0)
unfolding utf8_end many0 many_turns utf8_char one_of octets octet
f0_from = (refl, refl)

f4_upto : (utf8_end (0xF4 ∷ 0x8F ∷ 0xBF ∷ 0xBF ∷ []) 0 ≡ 4) × (utf8_end (0xF4 ∷ 0x90 ∷ 0x80 ∷ 0x80 ∷ []) 0 ≡ 0)
unfolding utf8_end many0 many_turns utf8_char one_of octets octet
f4_upto = (refl, refl)

-- RFC 3629, section 4: of each row the lowest and the highest character
abbrev ends : List (List ℕ) → List ℕ
ends = map (λ cs. utf8_end cs 0)

corners :
    ends
    ((0x00 ∷ [])
    ∷ (0x7F ∷ [])
    ∷ (0xC2 ∷ 0x80 ∷ [])
    ∷ (0xDF ∷ 0xBF ∷ [])
    ∷ (0xE0 ∷ 0xA0 ∷ 0x80 ∷ [])
    ∷ (0xE0 ∷ 0xBF ∷ 0xBF ∷ [])
    ∷ (0xE1 ∷ 0x80 ∷ 0x80 ∷ [])
    ∷ (0xEC ∷ 0xBF ∷ 0xBF ∷ [])
    ∷ (0xED ∷ 0x80 ∷ 0x80 ∷ [])
    ∷ (0xED ∷ 0x9F ∷ 0xBF ∷ [])
    ∷ (0xEE ∷ 0x80 ∷ 0x80 ∷ [])
    ∷ (0xEF ∷ 0xBF ∷ 0xBF ∷ [])
    ∷ (0xF0 ∷ 0x90 ∷ 0x80 ∷ 0x80 ∷ [])
    ∷ (0xF0 ∷ 0xBF ∷ 0xBF ∷ 0xBF ∷ [])
    ∷ (0xF1 ∷ 0x80 ∷ 0x80 ∷ 0x80 ∷ [])
    ∷ (0xF3 ∷ 0xBF ∷ 0xBF ∷ 0xBF ∷ [])
    ∷ (0xF4 ∷ 0x80 ∷ 0x80 ∷ 0x80 ∷ [])
    ∷ (0xF4 ∷ 0x8F ∷ 0xBF ∷ 0xBF ∷ [])
    ∷ [])
    ≡ 1 ∷ 1 ∷ 2 ∷ 2 ∷ 3 ∷ 3 ∷ 3 ∷ 3 ∷ 3 ∷ 3 ∷ 3 ∷ 3 ∷ 4 ∷ 4 ∷ 4 ∷ 4 ∷ 4 ∷ 4 ∷ []
unfolding utf8_end many0 many_turns utf8_char one_of octets octet
corners = refl

-- and with a first byte, a second byte or a tail one below or one above it is none
beyond :
    ends
    ((0x80 ∷ [])
    ∷ (0xC1 ∷ 0xBF ∷ [])
    ∷ (0xC2 ∷ 0x7F ∷ [])
    ∷ (0xDF ∷ 0xC0 ∷ [])
    ∷ (0xE0 ∷ 0x9F ∷ 0xBF ∷ [])
    ∷ (0xE0 ∷ 0xC0 ∷ 0x80 ∷ [])
    ∷ (0xE1 ∷ 0x7F ∷ 0xBF ∷ [])
    ∷ (0xEC ∷ 0xC0 ∷ 0x80 ∷ [])
    ∷ (0xED ∷ 0x7F ∷ 0xBF ∷ [])
    ∷ (0xED ∷ 0xA0 ∷ 0x80 ∷ [])
    ∷ (0xEE ∷ 0x7F ∷ 0xBF ∷ [])
    ∷ (0xEF ∷ 0xC0 ∷ 0x80 ∷ [])
    ∷ (0xEF ∷ 0xBF ∷ 0xC0 ∷ [])
    ∷ (0xEE ∷ 0x80 ∷ 0x7F ∷ [])
    ∷ (0xF0 ∷ 0x8F ∷ 0xBF ∷ 0xBF ∷ [])
    ∷ (0xF0 ∷ 0xC0 ∷ 0x80 ∷ 0x80 ∷ [])
    ∷ (0xF1 ∷ 0x7F ∷ 0xBF ∷ 0xBF ∷ [])
    ∷ (0xF3 ∷ 0xC0 ∷ 0x80 ∷ 0x80 ∷ [])
    ∷ (0xF4 ∷ 0x7F ∷ 0xBF ∷ 0xBF ∷ [])
    ∷ (0xF4 ∷ 0x90 ∷ 0x80 ∷ 0x80 ∷ [])
    ∷ (0xF4 ∷ 0x8F ∷ 0xBF ∷ 0xC0 ∷ [])
    ∷ (0xF4 ∷ 0x80 ∷ 0x80 ∷ 0x7F ∷ [])
    ∷ (0xF5 ∷ 0x80 ∷ 0x80 ∷ 0x80 ∷ [])
    ∷ [])
    ≡ replicate 23 0
unfolding utf8_end many0 many_turns utf8_char one_of octets octet
beyond = refl

cut_short : utf8_end (0x61 ∷ 0x62 ∷ 0xF0 ∷ 0x9F ∷ []) 0 ≡ 2
unfolding utf8_end many0 many_turns utf8_char one_of octets octet
cut_short = refl

-- ---- numbers
-- 02, [6]: "none, too large with the place after its digits, value with that place"; a number is limited by its value and not by its digits
outcomes : map (λ t. parsed (bytes t) 0) ("" ∷ "x1" ∷ "18446744073709551616x" ∷ "99999999999999999999999999999999" ∷ "18446744073709551615x" ∷ "0000000000000000000000007" ∷ [])
    ≡ fail no_digits ∷ fail no_digits ∷ ok large 20 ∷ ok large 32 ∷ ok (fits (2 ^ 64 - 1)) 20 ∷ ok (fits 7) 25 ∷ []
unfolding parsed is_digit run_end run decimal
outcomes = refl

target : number (bytes "#EXT-X-TARGETDURATION:10.5\n") 22 ≡ ok 10 24
unfolding number parsed is_digit run_end run decimal
target = refl

no_number : number (bytes "x") 0 ≡ fail no_digits
unfolding number parsed is_digit run_end run decimal
no_number = refl

largest : number (bytes "18446744073709551615") 0 ≡ ok (2 ^ 64 - 1) 20
unfolding number parsed is_digit run_end run decimal
largest = refl

too_large_lem : number (bytes "18446744073709551616") 0 ≡ fail too_large
unfolding number parsed is_digit run_end run decimal
too_large_lem = refl

version : number_or_zero (bytes "18446744073709551616") 0 ≡ ok 0 20
unfolding number_or_zero parsed is_digit run_end run decimal
version = refl

no_version : number_or_zero (bytes "v") 0 ≡ fail no_digits
unfolding number_or_zero parsed is_digit run_end run decimal
no_version = refl

-- ---- byte ranges
both : byte_range_val (bytes "9@7x") 0 ≡ ok (range 9 (some 7)) 3
unfolding byte_range_val number parsed is_digit run_end run decimal tagged begins
both = refl

alone : byte_range_val (bytes "9@x") 0 ≡ ok (range 9 none) 1
unfolding byte_range_val number parsed is_digit run_end run decimal tagged begins
alone = refl

no_range : byte_range_val (bytes "@9") 0 ≡ fail no_digits
unfolding byte_range_val number parsed is_digit run_end run decimal tagged begins
no_range = refl

-- ---- lines
line : consume_line (bytes "a\r\nb") 0 ≡ ok (span 0 1) 3
unfolding consume_line run_end run tagged begins
line = refl

last_line : consume_line (bytes "ab") 0 ≡ ok (span 0 2) 2
unfolding consume_line run_end run tagged begins
last_line = refl

lone_cr_lem : consume_line (bytes "a\rb\n") 0 ≡ fail lone_cr
unfolding consume_line run_end run tagged begins
lone_cr_lem = refl

cr_at_end : consume_line (bytes "a\r") 0 ≡ fail lone_cr
unfolding consume_line run_end run tagged begins
cr_at_end = refl

-- ---- words
is_word : spells (bytes "aURI=") (span 1 4) (bytes "URI") ≡ true
unfolding spells tagged begins
is_word = refl

longer : spells (bytes "URIS=") (span 0 4) (bytes "URI") ≡ false
unfolding spells tagged begins
longer = refl

-- ---- tags
m3u : m3u_tag (bytes "#EXTM3Uabc\n") 0 ≡ ok tt 7
unfolding m3u_tag tagged begins
m3u = refl

no_m3u : m3u_tag (bytes "") 0 ≡ fail other_text
unfolding m3u_tag tagged begins
no_m3u = refl

foo : ext_tag (bytes "#EXT-X-FOO\n") 0 ≡ ok (ext (span 5 10) none) 11
unfolding ext_tag run_end run tagged after_tag begins
foo = refl

foo_rest : ext_tag (bytes "#EXT-X-FOO:a:b\n") 0 ≡ ok (ext (span 5 10) (some (span 11 14))) 15
unfolding ext_tag run_end run tagged after_tag begins
foo_rest = refl

foo_end : ext_tag (bytes "#EXT-X-FOO") 0 ≡ fail missing_byte
unfolding ext_tag run_end run tagged after_tag begins
foo_end = refl

no_name : ext_tag (bytes "#EXT-:\n") 0 ≡ fail name_empty
unfolding ext_tag run_end run tagged after_tag begins
no_name = refl

comment : comment_tag (bytes "#\n") 0 ≡ ok none 2
unfolding comment_tag run_end run tagged begins
comment = refl

comment_end : comment_tag (bytes "#a") 0 ≡ fail missing_byte
unfolding comment_tag run_end run tagged begins
comment_end = refl

event_type : playlist_type (bytes "EVENT\r\n") 0 ≡ ok event 6
unfolding playlist_type run_end run spells tagged begins
event_type = refl

vod_type : playlist_type (bytes "VOD\n") 0 ≡ ok vod 4
unfolding playlist_type run_end run spells tagged begins
vod_type = refl

other_type : playlist_type (bytes "EVENT \n") 0 ≡ ok (other (span 0 6)) 7
unfolding playlist_type run_end run spells tagged begins
other_type = refl

no_type : playlist_type (bytes "\n") 0 ≡ fail type_empty
unfolding playlist_type run_end run spells tagged begins
no_type = refl
