-- parser.rs, "Util": the list of attributes, side by side with the Rust. Assumes nothing.
use Rattle.std.specs.Prelude.{ℕ, Bool, false, not, cond, ◌||◌, List, [], ◌∷◌, take, drop}
use Rattle.std.proofs.Math.Option.{Option, none, some}
use Rattle.text.specs.Why.{missing_byte}
use Rattle.text.specs.Nom.{Parser, Span, bytes, tag, opt_tag, is_not, peek_none_of, take_until, alt, map, preceded, ◌>>=◌, done, space0}
use Rattle.text.specs.Many.{many0, collected}
use Rattle.text.specs.Util.{spells}

-- enum QuotedOrUnquoted { Unquoted(String), Quoted(String) }
pub data QuotedOrUnquoted : Type 0 where
  bare in_quotes : Span → QuotedOrUnquoted

-- fn quoted = delimited(char('\"'), map_res(is_not("\""), quoted_from_utf8_slice), char('\"'))
unfoldable pub quoted : Parser QuotedOrUnquoted
quoted =
    tag (bytes "\"") >>= λ _.
    is_not missing_byte (bytes "\"") >>= λ s.
    tag (bytes "\"") >>= λ _.
    done (in_quotes s)

-- fn unquoted = map_res(is_not(",\r\n"), unquoted_from_utf8_slice)
unfoldable pub unquoted : Parser QuotedOrUnquoted
unquoted = map bare (is_not missing_byte (bytes ",\r\n"))

pub data Pair : Type 0 where
  pair : Span → QuotedOrUnquoted → Pair

-- fn key_value_pair = map(tuple((peek(none_of("\r\n")), take_until("="), char('='), alt((quoted, unquoted)), opt(char(',')))), |(_, left, _, right, _)| (left, right))
unfoldable pub key_value_pair : Parser Pair
key_value_pair =
    peek_none_of (bytes "\r\n") >>= λ _.
    take_until (bytes "=") >>= λ left.
    tag (bytes "=") >>= λ _.
    alt quoted unquoted >>= λ right.
    opt_tag (bytes ",") >>= λ _.
    done (pair left right)

-- preceded(space0, key_value_pair)
unfoldable pub next_pair : Parser Pair
next_pair = preceded space0 key_value_pair

-- fn key_value_pairs = fold_many0(preceded(space0, key_value_pair), HashMap::new, insert): the pairs, in order
unfoldable pub key_value_pairs : Parser (List Pair)
key_value_pairs text at = collected (many0 next_pair text at)

-- acc.insert(left, right), pair after pair, as one name sees it: "Of equal names the last holds."
unfoldable pub inserted : List ℕ → List ℕ → Option QuotedOrUnquoted → List Pair → Option QuotedOrUnquoted
inserted text name held [] = held
inserted text name held (pair left right ∷ ps) = inserted text name (cond (spells text left name) (some right) held) ps

-- attrs.get(name)
abbrev pub get : List ℕ → List ℕ → List Pair → Option QuotedOrUnquoted
get text name ps = inserted text name none ps

-- ---- names that are written one after the other, of these sizes (where the text is too short, a name has what is left)
unfoldable pub words : List ℕ → List ℕ → List (List ℕ)
words names [] = []
words names (size ∷ sizes) = take size names ∷ words (drop size names) sizes

-- is there a name besides these?
unfoldable pub named : List ℕ → Span → List (List ℕ) → Bool
named text left [] = false
named text left (w ∷ ws) = spells text left w || named text left ws

unfoldable pub besides : List ℕ → List (List ℕ) → List Pair → Bool
unfolding named
besides text names [] = false
besides text names (pair left right ∷ ps) = not (named text left names) || besides text names ps
