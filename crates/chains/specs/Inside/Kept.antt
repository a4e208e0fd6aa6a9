-- What is kept of the attribute lists that were read before, and when it is true of a text. No rule of the reading cites it: a list that is read with a memory
-- that is true of its text is the list of `attributes`' rules. Assumes nothing.
use Rattle.std.specs.Prelude.{ℕ, ◌+◌, ◌*◌, ◌≤◌, ◌≡◌, Bool, true, false, cond, ◌&&◌, List, [], ◌∷◌, ◌++◌, map, ltb, leb, length, get_or, take, drop}
use Rattle.std.proofs.Math.Option.{Option, none, some}
use Rattle.text.specs.Why.{Why}
use Rattle.text.specs.Nom.{fail, ok, Span, span, bytes, is_none_of}
use Rattle.text.specs.Many.{many0, items, stop}
use Rattle.attributes.specs.Pairs.{QuotedOrUnquoted, bare, in_quotes, Pair, pair, key_value_pair, next_pair, inserted, get, words}
use Rattle.attributes.specs.Held.{attr_words, words_of, attr_from, laid}
use Rattle.attributes.specs.Inside.Insert.{stored}

abbrev pub start_of : Span → ℕ
start_of (span s e) = s

abbrev pub end_of : Span → ℕ
end_of (span s e) = e

-- ---- a list, and a list that begins within it
-- what the list at a place has under a name
abbrev pub has : List ℕ → ℕ → List ℕ → Option QuotedOrUnquoted
has text at name = get text name (items (many0 next_pair text at))

abbrev pub span_in : QuotedOrUnquoted → Span
span_in (bare s) = s
span_in (in_quotes s) = s

-- a value that stands behind the place b; one before it counts as absent
abbrev pub later : ℕ → Option QuotedOrUnquoted → Option QuotedOrUnquoted
later b none = none
later b (some v) = cond (ltb b (start_of (span_in v))) (some v) none

-- the list at `from` comes to the place b between two of its pairs: both end at the same place, and what the list at b has is what of the other stands behind b
pub record Leads (text : List ℕ) (from b : ℕ) : Type 0 where
  pub on : from ≤ b
  pub ends : stop (many0 next_pair text from) ≡ stop (many0 next_pair text b)
  pub tails : (name : List ℕ) → has text b name ≡ later b (has text from name)

-- ---- a chain: one pair of a list, the place behind it, and where the list ends; without a value it is none
pub record Chain : Type 0 where
  pub name : Span
  pub value : Option QuotedOrUnquoted
  pub next : ℕ
  pub end : ℕ

abbrev pub chain : Span → Option QuotedOrUnquoted → ℕ → ℕ → Chain
chain n v next end = record { name = n; value = v; next = next; end = end }

-- the pair is there; and `kept` is what a list has that comes to the place behind the pair and ends where the chain says
pub record Known (text : List ℕ) (names : List (List ℕ)) (c : Chain) (v : QuotedOrUnquoted) (kept : List ℕ) : Type 0 where
  pub read : key_value_pair text (start_of c.name) ≡ ok (pair c.name v) c.next
  pub ends : stop (many0 next_pair text c.next) ≡ c.end
  pub from : ℕ
  pub leads : Leads text from c.next
  pub holds : kept ≡ laid (length kept) (map (has text from) names)

-- where there is a chain
abbrev pub TrueChain : List ℕ → List (List ℕ) → Chain → List ℕ → Type 0
TrueChain text names c kept = (v : QuotedOrUnquoted) → c.value ≡ some v → Known text names c v kept

-- the chain further on in its list, or none: whatever is kept of it stays true
abbrev pub Forward : List ℕ → Chain → Chain → Type 0
Forward text c d = (names : List (List ℕ)) (kept : List ℕ) → TrueChain text names c kept → TrueChain text names d kept

abbrev pub present : Option QuotedOrUnquoted → Bool
present none = false
present (some v) = true

-- the chain of a list that begins with this pair
abbrev pub begun : Pair → ℕ → ℕ → Chain
begun (pair n v) next end = chain n (some v) next end

-- a name can begin here: peek(none_of("\r\n"))
abbrev pub begins_name : List ℕ → ℕ → Bool
begins_name text at = ltb at (length text) && is_none_of (bytes "\r\n") (get_or text at 0)

-- a name that begins here is within the name of the chain's pair
abbrev pub joins : List ℕ → ℕ → Chain → Bool
joins text i c = present c.value && (begins_name text i && (leb (start_of c.name) i && leb i (end_of c.name)))

-- ---- names that make no pair
pub record Fails (text : List ℕ) (i : ℕ) : Type 0 where
  pub why : Why
  pub fails : key_value_pair text i ≡ fail why

-- from the place before the span's start on, up to its end; none where it starts at 0
abbrev pub is_silent : Span → ℕ → Bool
is_silent s i = ltb 0 (start_of s) && (leb (start_of s) (i + 1) && leb i (end_of s))

abbrev pub Silent : List ℕ → Span → Type 0
Silent text s = (i : ℕ) → is_silent s i ≡ true → Fails text i

pub record Failing : Type 0 where
  pub dead : Span
  pub none : Span

abbrev pub failing : Span → Span → Failing
failing d n = record { dead = d; none = n }

pub record TrueFailing (text : List ℕ) (f : Failing) : Type 0 where
  pub dead : Silent text f.dead
  pub none : Silent text f.none

-- ---- values put each under its number, in the place of what is held there
unfoldable pub overlaid : List (Option QuotedOrUnquoted) → ℕ → List ℕ → List ℕ
overlaid [] n held = held
overlaid (none ∷ vs) n held = overlaid vs (n + 1) held
overlaid (some v ∷ vs) n held = overlaid vs (n + 1) (stored held n (words_of (some v)))

-- ---- all that is kept, and its words: both chains' values, then their other places, then the names that make no pair; behind them what each list has
pub record Memory : Type 0 where
  pub first : Chain
  pub second : Chain
  pub fails : Failing

abbrev pub memory : Chain → Chain → Failing → Memory
memory a b f = record { first = a; second = b; fails = f }

abbrev pub place_words : ℕ
place_words = 18

abbrev pub memory_of : List ℕ → Memory
memory_of m =
    memory
    (chain (span (get_or m 6 0) (get_or m 7 0)) (attr_from (get_or m 0 0) (span (get_or m 1 0) (get_or m 2 0))) (get_or m 8 0) (get_or m 9 0))
    (chain (span (get_or m 10 0) (get_or m 11 0)) (attr_from (get_or m 3 0) (span (get_or m 4 0) (get_or m 5 0))) (get_or m 12 0) (get_or m 13 0))
    (failing (span (get_or m 14 0) (get_or m 15 0)) (span (get_or m 16 0) (get_or m 17 0)))

abbrev pub memory_words : Memory → List ℕ
memory_words m =
    words_of m.first.value ++ (words_of m.second.value
    ++ (start_of m.first.name ∷ end_of m.first.name ∷ m.first.next ∷ m.first.end
    ∷ start_of m.second.name ∷ end_of m.second.name ∷ m.second.next ∷ m.second.end
    ∷ start_of m.fails.dead ∷ end_of m.fails.dead ∷ start_of m.fails.none ∷ end_of m.fails.none ∷ []))

-- what chain 0 or 1 keeps, in so many words
abbrev pub kept_at : ℕ → ℕ → List ℕ → List ℕ
kept_at room k m = take room (drop (place_words + k * room) m)

-- two chains and the names that make no pair are true of the text, with what the words keep of either list: so many words each
pub record TrueParts (text : List ℕ) (names : List (List ℕ)) (p : Memory) (room : ℕ) (m : List ℕ) : Type 0 where
  pub first : TrueChain text names p.first (kept_at room 0 m)
  pub second : TrueChain text names p.second (kept_at room 1 m)
  pub fails : TrueFailing text p.fails

-- both chains further on
pub record ForwardAll (text : List ℕ) (m p : Memory) : Type 0 where
  pub first : Forward text m.first p.first
  pub second : Forward text m.second p.second
  pub fails : p.fails ≡ m.fails

-- all that the words say is true of the text
abbrev pub TrueMemory : List ℕ → List (List ℕ) → ℕ → List ℕ → Type 0
TrueMemory text names room m = TrueParts text names (memory_of m) room m

-- ---- a list that was read: where held₀ is what pairs before it have, held is what they and the list have together
pub record ListFrom (text : List ℕ) (names : List (List ℕ)) (at : ℕ) (held₀ held : List ℕ) (end : ℕ) : Type 0 where
  pub ends : end ≡ stop (many0 next_pair text at)
  pub holds : (f : List ℕ → Option QuotedOrUnquoted) → held₀ ≡ laid (length held₀) (map f names)
      → held ≡ laid (length held₀) (map (λ name. inserted text name (f name) (items (many0 next_pair text at))) names)

-- ---- the memory of MAP's lists
abbrev pub map_names : List (List ℕ)
map_names = words (bytes "URIBYTERANGE") (3 ∷ 9 ∷ [])

-- three words to a name
abbrev pub map_room : ℕ
map_room = 2 * attr_words

abbrev pub RemembersMaps : List ℕ → List ℕ → Type 0
RemembersMaps text m = TrueMemory text map_names map_room m

-- what a call promises that is handed a memory: where it was true of the text, P holds, and it is true of the text still
abbrev pub Remembering : List ℕ → List ℕ → List ℕ → Type 0 → Type 0
Remembering text m₀ m P = RemembersMaps text m₀ → P × RemembersMaps text m
