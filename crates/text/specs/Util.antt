-- parser.rs, "Util", side by side with the Rust. Assumes nothing.
use Rattle.std.specs.Prelude.{ℕ, ◌+◌, ◌^◌, Bool, cond, ◌&&◌, List, ltb, eqb, length}
use Rattle.std.proofs.Math.Option.{Option}
use Rattle.text.specs.Why.{too_large}
use Rattle.text.specs.Nom.{fail, Parser, Span, span, bytes, tag, tagged, digit1, not_line_ending, opt, alt, map, preceded, ◌>>=◌, done}

-- fn consume_line = map(pair(map_res(not_line_ending, from_utf8_slice), opt(line_ending)), |(line, _)| line)
unfoldable pub consume_line : Parser Span
consume_line =
    not_line_ending >>= λ line.
    opt (alt (tag (bytes "\n")) (tag (bytes "\r\n"))) >>= λ _.
    done line

-- str::parse::<u64> of digits: a number, or too large
pub data Parsed : Type 0 where
  fits : ℕ → Parsed
  large : Parsed

abbrev pub parse : ℕ → Parsed
parse n = cond (ltb n (2 ^ 64)) (fits n) large

-- take_while1(is_digit), then str::parse::<u64>. 02, [6]: "Let the one reading of a number answer with three outcomes: none, too large with the place after its
-- digits, value with that place": `fail noDigits`, `ok large place`, `ok (fits value) place`
unfoldable pub parsed : Parser Parsed
parsed = map parse digit1

-- "A larger one fails its alternative"
abbrev pub or_fail : Parsed → Parser ℕ
or_fail (fits n) = done n
or_fail large = λ text at. fail too_large

-- "a larger VERSION reads as 0": unwrap_or_default()
abbrev pub or_zero : Parsed → ℕ
or_zero (fits n) = n
or_zero large = 0

-- fn number = map_res(take_while1(is_digit), |s| str::parse::<u64>(s))
unfoldable pub number : Parser ℕ
number = parsed >>= λ n. or_fail n

-- in fn version_tag: map(digit1, |version| version.parse().unwrap_or_default())
unfoldable pub number_or_zero : Parser ℕ
number_or_zero = map or_zero parsed

-- struct ByteRange { length: u64, offset: Option<u64> }
pub data ByteRange : Type 0 where
  range : ℕ → Option ℕ → ByteRange

-- fn byte_range_val = map(pair(number, opt(preceded(char('@'), number))), |(n, o)| ByteRange { length: n, offset: o })
unfoldable pub byte_range_val : Parser ByteRange
byte_range_val =
    number >>= λ n.
    opt (preceded (tag (bytes "@")) number) >>= λ o.
    done (range n o)

-- a part of the text is this word: it stands at the part's start and ends at its end
unfoldable pub spells : List ℕ → Span → List ℕ → Bool
spells text (span s e) word = tagged word text s && eqb (s + length word) e
