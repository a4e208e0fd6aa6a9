-- UTF-8, from RFC 3629, section 4, "Syntax of UTF-8 Byte Sequences": its rows, name by name, and what they say of a text. Assumes nothing.
--
--    UTF8-octets = *( UTF8-char )
--    UTF8-char   = UTF8-1 / UTF8-2 / UTF8-3 / UTF8-4
--    UTF8-1      = %x00-7F
--    UTF8-2      = %xC2-DF UTF8-tail
--    UTF8-3      = %xE0 %xA0-BF UTF8-tail / %xE1-EC 2( UTF8-tail ) /
--                  %xED %x80-9F UTF8-tail / %xEE-EF 2( UTF8-tail )
--    UTF8-4      = %xF0 %x90-BF 2( UTF8-tail ) / %xF1-F3 3( UTF8-tail ) /
--                  %xF4 %x80-8F 2( UTF8-tail )
--    UTF8-tail   = %x80-BF
use Rattle.std.specs.Prelude.{ℕ, ◌+◌, Bool, ◌&&◌, List, [], ◌∷◌, ◌++◌, leb, ltb, length, get_or}
use Rattle.text.specs.Why.{missing_byte}
use Rattle.text.specs.Nom.{fail, ok, Parser, when, alt, ◌>>=◌, done}
use Rattle.text.specs.Many.{many0, stop}

-- ---- the grammar
-- %xLO-HI; of %xLO alone, lo and hi are the same
pub data Octet : Type 0 where
  ◌to◌ : ℕ → ℕ → Octet

infix 90 ◌to◌
-- what stands between two `/`: octets, one after the other
abbrev pub Row : Type 0
Row = List Octet

-- UTF8-tail   = %x80-BF (the RFC's last line: what a row names stands before it here)
abbrev pub UTF8-tail : Octet
UTF8-tail = 0x80 to 0xBF

-- UTF8-1      = %x00-7F
abbrev pub UTF8-1 : List Row
UTF8-1 = (0x00 to 0x7F ∷ []) ∷ []

-- UTF8-2      = %xC2-DF UTF8-tail
abbrev pub UTF8-2 : List Row
UTF8-2 = (0xC2 to 0xDF ∷ UTF8-tail ∷ []) ∷ []

-- UTF8-3      = %xE0 %xA0-BF UTF8-tail / %xE1-EC 2( UTF8-tail ) /
--               %xED %x80-9F UTF8-tail / %xEE-EF 2( UTF8-tail )
abbrev pub UTF8-3 : List Row
UTF8-3 =
    (0xE0 to 0xE0 ∷ 0xA0 to 0xBF ∷ UTF8-tail ∷ [])
    ∷ (0xE1 to 0xEC ∷ UTF8-tail ∷ UTF8-tail ∷ [])
    ∷ (0xED to 0xED ∷ 0x80 to 0x9F ∷ UTF8-tail ∷ [])
    ∷ (0xEE to 0xEF ∷ UTF8-tail ∷ UTF8-tail ∷ [])
    ∷ []

-- UTF8-4      = %xF0 %x90-BF 2( UTF8-tail ) / %xF1-F3 3( UTF8-tail ) /
--               %xF4 %x80-8F 2( UTF8-tail )
abbrev pub UTF8-4 : List Row
UTF8-4 =
    (0xF0 to 0xF0 ∷ 0x90 to 0xBF ∷ UTF8-tail ∷ UTF8-tail ∷ [])
    ∷ (0xF1 to 0xF3 ∷ UTF8-tail ∷ UTF8-tail ∷ UTF8-tail ∷ [])
    ∷ (0xF4 to 0xF4 ∷ 0x80 to 0x8F ∷ UTF8-tail ∷ UTF8-tail ∷ [])
    ∷ []

-- UTF8-char   = UTF8-1 / UTF8-2 / UTF8-3 / UTF8-4
abbrev pub UTF8-char : List Row
UTF8-char = UTF8-1 ++ UTF8-2 ++ UTF8-3 ++ UTF8-4

-- ---- what it says of a text
-- a byte from lo to hi
abbrev pub in_octet : Octet → ℕ → Bool
in_octet (lo to hi) b = leb lo b && leb b hi

unfoldable pub octet : Octet → Parser (Unit {0})
octet o text at = when (ltb at (length text) && in_octet o (get_or text at 0)) missing_byte (ok tt (at + 1))

-- a row: its octets, one after the other
unfoldable pub octets : Row → Parser (Unit {0})
octets [] = done tt
octets (o ∷ os) = octet o >>= λ _. octets os

-- a / b / ..: the first row that is there
unfoldable pub one_of : List Row → Parser (Unit {0})
one_of [] = λ text at. fail missing_byte
one_of (r ∷ rs) = alt (octets r) (one_of rs)

unfoldable pub utf8_char : Parser (Unit {0})
utf8_char = one_of UTF8-char

-- UTF8-octets = *( UTF8-char ): where they end from a place on. From 0 that is the text's length, or the first byte of the first ill-formed sequence
unfoldable pub utf8_end : List ℕ → ℕ → ℕ
utf8_end text at = stop (many0 utf8_char text at)
