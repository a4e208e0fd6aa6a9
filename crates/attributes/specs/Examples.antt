-- Worked examples, by computation: for each rule a text that it takes and one that it refuses. Assumes nothing.
use Rattle.std.specs.Prelude.{◌≡◌, refl, true, false, [], ◌∷◌, map}
use Rattle.std.proofs.Math.Option.{none, some}
use Rattle.text.specs.Why.{other_text, missing_byte, no_uri, uri_not_quoted, range_not_quoted, range_bad}
use Rattle.text.specs.Nom.{fail, ok, span, bytes, is_digit, begins, tagged, after_tag, run, run_end, decimal}
use Rattle.text.specs.Many.{many, many0, many_turns, items, stop}
use Rattle.text.specs.Util.{spells, parsed, number, byte_range_val, range}
use Rattle.attributes.specs.Pairs.{bare, in_quotes, pair, quoted, unquoted, key_value_pair, next_pair, key_value_pairs, inserted, get, words, named, besides}
use Rattle.attributes.specs.Held.{laid, attr_word, attr_at}
use Rattle.attributes.specs.ExtMap.{ext_map, extmap}

-- ---- values
in_quotes_lem : quoted (bytes "\"a\nb\"x") 0 ≡ ok (in_quotes (span 1 4)) 5
unfolding quoted run_end run tagged begins
in_quotes_lem = refl

-- at least one byte
empty_quotes : quoted (bytes "\"\"") 0 ≡ fail missing_byte
unfolding quoted run_end run tagged begins
empty_quotes = refl

open_quotes : quoted (bytes "\"a") 0 ≡ fail other_text
unfolding quoted run_end run tagged begins
open_quotes = refl

plain : unquoted (bytes "a b,c") 0 ≡ ok (bare (span 0 3)) 3
unfolding unquoted run_end run
plain = refl

no_value : unquoted (bytes ",") 0 ≡ fail missing_byte
unfolding unquoted run_end run
no_value = refl

-- ---- pairs
uri_pair : key_value_pair (bytes "URI=\"m\",z\n") 0 ≡ ok (pair (span 0 3) (in_quotes (span 5 6))) 8
unfolding key_value_pair quoted unquoted run_end run tagged after_tag begins
uri_pair = refl

-- two quote marks with nothing between are a value without quotes
quotes_pair : key_value_pair (bytes "URI=\"\"\nx\n") 0 ≡ ok (pair (span 0 3) (bare (span 4 6))) 6
unfolding key_value_pair quoted unquoted run_end run tagged after_tag begins
quotes_pair = refl

-- a name may be empty, and runs across lines
empty_name : key_value_pair (bytes "=1") 0 ≡ ok (pair (span 0 0) (bare (span 1 2))) 2
unfolding key_value_pair quoted unquoted run_end run tagged after_tag begins
empty_name = refl

long_name : key_value_pair (bytes "z\ny?k=1\n") 0 ≡ ok (pair (span 0 5) (bare (span 6 7))) 7
unfolding key_value_pair quoted unquoted run_end run tagged after_tag begins
long_name = refl

no_pair : key_value_pair (bytes "\na=1") 0 ≡ fail missing_byte
unfolding key_value_pair quoted unquoted run_end run tagged after_tag begins
no_pair = refl

-- ---- lists
-- commas between pairs are optional, blanks before a pair are not its name
list : key_value_pairs (bytes "a=\"1\" b=2,\nc=3") 0 ≡ ok (pair (span 0 1) (in_quotes (span 3 4)) ∷ pair (span 6 7) (bare (span 8 9)) ∷ []) 10
unfolding key_value_pairs many0 many_turns next_pair key_value_pair quoted unquoted run_end run tagged after_tag begins
list = refl

-- it ends where the first thing begins that isn't a pair, blanks left out
list_ends : key_value_pairs (bytes "URI=\"m\", \nx?a=1\n") 0 ≡ ok (pair (span 0 3) (in_quotes (span 5 6)) ∷ []) 8
unfolding key_value_pairs many0 many_turns next_pair key_value_pair quoted unquoted run_end run tagged after_tag begins
list_ends = refl

no_list : key_value_pairs (bytes "abc\n") 0 ≡ ok [] 0
unfolding key_value_pairs many0 many_turns next_pair key_value_pair quoted unquoted run_end run tagged after_tag begins
no_list = refl

-- of equal names the last holds
last_holds : get (bytes "a=1,a=2,b=3") (bytes "a") (pair (span 0 1) (bare (span 2 3)) ∷ pair (span 4 5) (bare (span 6 7)) ∷ pair (span 8 9) (bare (span 10 11)) ∷ []) ≡ some (bare (span 6 7))
unfolding inserted spells tagged begins
last_holds = refl

two_words : words (bytes "URIBYTERANGE") (3 ∷ 9 ∷ []) ≡ bytes "URI" ∷ bytes "BYTERANGE" ∷ []
unfolding words
two_words = refl

-- a text that is too short
short_words : words (bytes "URIBY") (3 ∷ 9 ∷ 2 ∷ []) ≡ bytes "URI" ∷ bytes "BY" ∷ [] ∷ []
unfolding words
short_words = refl

-- five names at once: of two METHODs the last holds, and the list has no KEYFORMAT
five_names : (let text = bytes "METHOD=AES-128,URI=\"k\",IV=0x1,METHOD=NONE\n" in
    let m = many0 next_pair text 0 in
    many (map (λ name. get text name (items m)) (words (bytes "METHODURIIVKEYFORMATKEYFORMATVERSIONS") (6 ∷ 3 ∷ 2 ∷ 9 ∷ 17 ∷ []))) (stop m)
    ≡ many (some (bare (span 37 41)) ∷ some (in_quotes (span 20 21)) ∷ some (bare (span 26 29)) ∷ none ∷ none ∷ []) 41)
unfolding many0 many_turns next_pair key_value_pair quoted unquoted inserted words spells run_end run tagged after_tag begins
five_names = refl

-- three words each
five_held : laid 15 (some (bare (span 37 41)) ∷ some (in_quotes (span 20 21)) ∷ some (bare (span 26 29)) ∷ none ∷ none ∷ []) ≡ 1 ∷ 37 ∷ 41 ∷ 2 ∷ 20 ∷ 21 ∷ 1 ∷ 26 ∷ 29 ∷ 0 ∷ 0 ∷ 0 ∷ 0 ∷ 0 ∷ 0 ∷ []
unfolding laid
five_held = refl

-- in four words there is room for one
one_held : laid 4 (some (bare (span 37 41)) ∷ some (in_quotes (span 20 21)) ∷ []) ≡ 1 ∷ 37 ∷ 41 ∷ 0 ∷ []
unfolding laid
one_held = refl

-- each is read back, by its number; one that is not there is absent
read_back : map (attr_at (1 ∷ 37 ∷ 41 ∷ 2 ∷ 20 ∷ 21 ∷ 0 ∷ 0 ∷ 0 ∷ [])) (0 ∷ 1 ∷ 2 ∷ 3 ∷ []) ≡ some (bare (span 37 41)) ∷ some (in_quotes (span 20 21)) ∷ none ∷ none ∷ []
unfolding attr_word
read_back = refl

only_these : besides (bytes "a=1,b=2") (words (bytes "ab") (1 ∷ 1 ∷ [])) (pair (span 0 1) (bare (span 2 3)) ∷ pair (span 4 5) (bare (span 6 7)) ∷ []) ≡ false
unfolding besides named words spells tagged begins
only_these = refl

one_more : besides (bytes "a=1,b=2") (words (bytes "ac") (1 ∷ 1 ∷ [])) (pair (span 0 1) (bare (span 2 3)) ∷ pair (span 4 5) (bare (span 6 7)) ∷ []) ≡ true
unfolding besides named words spells tagged begins
one_more = refl

-- ---- maps
map_uri : extmap (bytes "URI=\"m\"abc\nx\n") 0 ≡ ok (ext_map (span 5 6) none (span 0 7)) 7
unfolding extmap key_value_pairs many0 many_turns next_pair key_value_pair quoted unquoted inserted spells run_end run tagged after_tag begins
map_uri = refl

map_range : extmap (bytes "BYTERANGE=\"9@x\",URI=\"m\"\n") 0 ≡ ok (ext_map (span 21 22) (some (range 9 none)) (span 0 23)) 23
unfolding extmap byte_range_val number parsed is_digit decimal key_value_pairs many0 many_turns next_pair key_value_pair quoted unquoted inserted spells run_end run tagged after_tag begins
map_range = refl

-- 01: M`#EXT-X-MAP:URI=""\nx\n` leaves an unknown tag
map_empty : extmap (bytes "URI=\"\"\nx\n") 0 ≡ fail uri_not_quoted
unfolding extmap key_value_pairs many0 many_turns next_pair key_value_pair quoted unquoted inserted spells run_end run tagged after_tag begins
map_empty = refl

map_none : extmap (bytes "a=1\n") 0 ≡ fail no_uri
unfolding extmap key_value_pairs many0 many_turns next_pair key_value_pair quoted unquoted inserted spells run_end run tagged after_tag begins
map_none = refl

map_bare_range : extmap (bytes "URI=\"m\",BYTERANGE=9\n") 0 ≡ fail range_not_quoted
unfolding extmap key_value_pairs many0 many_turns next_pair key_value_pair quoted unquoted inserted spells run_end run tagged after_tag begins
map_bare_range = refl

map_bad_range : extmap (bytes "URI=\"m\",BYTERANGE=\"@9\"\n") 0 ≡ fail range_bad
unfolding extmap byte_range_val number parsed is_digit decimal key_value_pairs many0 many_turns next_pair key_value_pair quoted unquoted inserted spells run_end run tagged after_tag begins
map_bad_range = refl

-- 01: M`#EXT-X-MAP:URI="m",z\ny?k=1\n` has no clip: the list takes the next line too
map_swallows : extmap (bytes "URI=\"m\",z\ny?k=1\n") 0 ≡ ok (ext_map (span 5 6) none (span 0 15)) 15
unfolding extmap key_value_pairs many0 many_turns next_pair key_value_pair quoted unquoted inserted spells run_end run tagged after_tag begins
map_swallows = refl
