-- The rows by one byte of theirs, so that only those with the text's byte need be tried: `#EXTINF` has an `I` at place 4, the others `-`, and at place 7
-- a letter. Assumes nothing.
use Rattle.std.specs.Prelude.{ℕ, ◌+◌, ◌≡◌, Bool, cond, List, [], ◌∷◌, ◌++◌, eqb, get_or}
use Prim.Native.Char.{Char, code}
use Rattle.text.specs.Why.{other_text}
use Rattle.text.specs.Nom.{Res, fail, Parser, or_else}
use Rattle.verdict.specs.Verdict.{Row, literal, reads, master_names, playlist_names, segment_names}

-- the text has this byte at place k from `at` on
abbrev pub HasAt : ℕ → Char → List ℕ → ℕ → Type 0
HasAt k x text at = get_or text (at + k) 0 ≡ code x

abbrev pub rows : List Row
rows = master_names ++ (playlist_names ++ segment_names)

-- those with byte x at place k
abbrev pub having : ℕ → ℕ → List Row → List Row
having k x [] = []
having k x (r ∷ rs) = cond (eqb x (get_or (literal r) k 0)) (r ∷ having k x rs) (having k x rs)

-- what was found before, else this row; else the first of these
unfoldable pub or_row : Res Bool → Row → Parser Bool
or_row r q text at = or_else r (reads q text at)

abbrev pub or_first : Res Bool → List Row → Parser Bool
or_first r [] text at = r
or_first r (q ∷ qs) text at = or_first (or_row r q text at) qs text at

-- the first of these that is there
abbrev pub found : List Row → Parser Bool
found = or_first (fail other_text)

-- those that begin with `#EXT-X-`, and the first that is there of those with this letter behind it
abbrev pub dashed : List Row
dashed = having 4 (code "-") rows

abbrev pub lettered : Char → Parser Bool
lettered x = found (having 7 (code x) dashed)
