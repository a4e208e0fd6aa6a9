-- The public call: "Verdict alone: 1, 2, 3." Assumes nothing.
use Rattle.std.specs.Prelude.{ℕ, Bool, true, false, List, leb, eqb, length}
use Rattle.text.specs.Nom.{bytes, tagged}
use Rattle.text.specs.Utf8.{utf8_end}
use Rattle.tables.specs.Layout.{text_limit}
use Rattle.tables.specs.Refusal.{Answer, refused, given, or_refuse, text_too_long, not_utf8, no_header}
use Rattle.verdict.specs.Verdict.{Verdict, master, media, verdict_from}

abbrev pub header : List ℕ
header = bytes "#EXTM3U"

-- what every call on a text asks first: 1, 2, 3
unfoldable pub admitted : List ℕ → Answer (Unit {0})
admitted text =
    or_refuse (leb (length text) text_limit) text_too_long 0
    (or_refuse (eqb (utf8_end text 0) (length text)) not_utf8 (utf8_end text 0)
    (or_refuse (tagged header text 0) no_header 0
    (given tt)))

-- and then its own answer
abbrev pub and_then : {A : Type 0} → Answer (Unit {0}) → Answer A → Answer A
and_then (refused r p) answer = refused r p
and_then (given _) answer = answer

-- the verdict on a whole text
unfoldable pub verdict_of : List ℕ → Verdict
verdict_of text = verdict_from text (length header)

-- pub fn is_master_playlist = contains_master_tag(input).map(|t| t.0).unwrap_or(false)
abbrev pub is_master : Verdict → Bool
is_master (master hash) = true
is_master media = false

unfoldable pub is_master_playlist : List ℕ → Answer Bool
is_master_playlist text = and_then (admitted text) (given (is_master (verdict_of text)))
