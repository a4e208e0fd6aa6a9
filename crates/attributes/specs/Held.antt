-- What a list has under each of some names, in words that the caller lends: three to a name, in the order of the names. Assumes nothing.
use Rattle.std.specs.Prelude.{ℕ, ◌+◌, ◌-◌, ◌*◌, ◌≡◌, cond, List, [], ◌∷◌, ◌++◌, map, eqb, leb, length, get_or, replicate}
use Rattle.std.proofs.Math.Option.{Option, none, some}
use Rattle.text.specs.Nom.{Span, span}
use Rattle.text.specs.Many.{many0, items, stop}
use Rattle.attributes.specs.Pairs.{QuotedOrUnquoted, bare, in_quotes, next_pair, get, words}

-- ---- the words of an attribute: its kind, and where its value starts and ends. `src/held.rt` has these numbers for the code.
abbrev pub attr_words : ℕ
attr_words = 3

abbrev pub kind_at : ℕ
kind_at = 0

abbrev pub start_at : ℕ
start_at = 1

abbrev pub end_at : ℕ
end_at = 2

-- kinds
abbrev pub absent_kind : ℕ
absent_kind = 0

abbrev pub unquoted_kind : ℕ
unquoted_kind = 1

abbrev pub quoted_kind : ℕ
quoted_kind = 2

abbrev pub words_of : Option QuotedOrUnquoted → List ℕ
words_of none = absent_kind ∷ 0 ∷ 0 ∷ []
words_of (some (bare (span s e))) = unquoted_kind ∷ s ∷ e ∷ []
words_of (some (in_quotes (span s e))) = quoted_kind ∷ s ∷ e ∷ []

-- any other kind is absent
abbrev pub attr_from : ℕ → Span → Option QuotedOrUnquoted
attr_from kind s = cond (eqb kind unquoted_kind) (some (bare s)) (cond (eqb kind quoted_kind) (some (in_quotes s)) none)

-- ---- what is held
-- so many words, with attribute after attribute in them as long as a whole one fits. The words that are left are 0.
unfoldable pub laid : ℕ → List (Option QuotedOrUnquoted) → List ℕ
laid room [] = replicate room 0
laid room (v ∷ vs) = cond (leb attr_words room) (words_of v ++ laid (room - attr_words) vs) (replicate room 0)

-- word i of attribute number k; 0 where the words are too few for it
unfoldable pub attr_word : List ℕ → ℕ → ℕ → ℕ
attr_word held k i = cond (leb (k * attr_words + attr_words) (length held)) (get_or held (k * attr_words + i) 0) 0

abbrev pub attr_at : List ℕ → ℕ → Option QuotedOrUnquoted
attr_at held k = attr_from (attr_word held k kind_at) (span (attr_word held k start_at) (attr_word held k end_at))

-- ---- all that one walk over a list says: where the list ends, and each lent word after it, which is what the list has under each of the names
pub record LastOfEach (text : List ℕ) (at : ℕ) (names sizes held₀ held : List ℕ) (end : ℕ) : Type 0 where
  pub ends : end ≡ stop (many0 next_pair text at)
  pub holds : held ≡ laid (length held₀) (map (λ name. get text name (items (many0 next_pair text at))) (words names sizes))
