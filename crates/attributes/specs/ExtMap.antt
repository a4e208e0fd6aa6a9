-- parser.rs, `extmap`, side by side with the Rust. Assumes nothing.
use Rattle.std.specs.Prelude.{ℕ, List}
use Rattle.std.proofs.Math.Option.{Option, none, some}
use Rattle.text.specs.Why.{no_uri, uri_not_quoted, range_not_quoted, range_bad}
use Rattle.text.specs.Nom.{Res, fail, ok, Parser, Span, span, bytes, place, bind, ◌>>=◌, done}
use Rattle.text.specs.Util.{ByteRange, byte_range_val}
use Rattle.attributes.specs.Pairs.{QuotedOrUnquoted, bare, in_quotes, key_value_pairs, get}

-- struct Map { uri: String, byte_range: Option<ByteRange>, other_attributes }, the last as the list's span
pub data Map : Type 0 where
  ext_map : Span → Option ByteRange → Span → Map

-- match attrs.remove("URI") { Some(Quoted(s)) => Ok(s), Some(Unquoted(_)) => Err("Can't create URI attribute from unquoted string"), None => Err("URI is empty") }
abbrev pub uri_of : Option QuotedOrUnquoted → Parser Span
uri_of none = λ text at. fail no_uri
uri_of (some (bare s)) = λ text at. fail uri_not_quoted
uri_of (some (in_quotes s)) = done s

-- match byte_range_val(s.as_bytes()) { Ok((_, range)) => Ok(Some(range)), Err(_) => Err("Invalid byte range") }
abbrev pub begun : Res ByteRange → ℕ → Res (Option ByteRange)
begun (fail why) at = fail range_bad
begun (ok r n) at = ok (some r) at

-- match attrs.remove("BYTERANGE") { Some(Quoted(s)) => .., Some(Unquoted(_)) => Err("Can't create BYTERANGE attribute from unquoted string"), None => Ok(None) }
abbrev pub range_of : Option QuotedOrUnquoted → Parser (Option ByteRange)
range_of none = done none
range_of (some (bare s)) = λ text at. fail range_not_quoted
range_of (some (in_quotes (span s e))) = λ text at. begun (byte_range_val text s) at

-- |mut attrs| { let uri = ..?; let byte_range = ..?; Ok(Map { uri, byte_range, other_attributes: attrs }) }: of a list from one place to another, by what it has
abbrev pub mapped : List ℕ → ℕ → Option QuotedOrUnquoted → Option QuotedOrUnquoted → ℕ → Res Map
mapped text from uri range to = bind (uri_of uri text to) (λ u n. bind (range_of range text n) (λ r m. ok (ext_map u r (span from to)) m))

-- fn extmap = map_res(key_value_pairs, |mut attrs| { let uri = ..?; let byte_range = ..?; Ok(Map { uri, byte_range, other_attributes: attrs }) })
unfoldable pub extmap : Parser Map
extmap =
    place >>= λ from.
    key_value_pairs >>= λ attrs.
    place >>= λ to.
    (λ text. uri_of (get text (bytes "URI") attrs) text) >>= λ uri.
    (λ text. range_of (get text (bytes "BYTERANGE") attrs) text) >>= λ byteRange.
    done (ext_map uri byteRange (span from to))
