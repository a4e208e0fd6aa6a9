-- What each answer of the code says, in the words of `Kept`. Assumes nothing.
use Rattle.std.specs.Prelude.{ℕ, ◌≡◌, List, true, length, replicate, Result, Ok, Err}
use Rattle.text.specs.declared.Why as whyᵈ
use Rattle.text.specs.Nom.{ok, run_end, is_space}
use Rattle.text.specs.Answers.{span_of}
use Rattle.attributes.specs.declared.pair.Pair as pairᵈ
use Rattle.attributes.specs.Pairs.{Pair, key_value_pair, next_pair, words}
use Rattle.attributes.specs.Held.{LastOfEach}
use Rattle.attributes.specs.Answers.{attr_of, pair_of}
use Rattle.chains.specs.declared.kept.Chain as chainᵈ
use Rattle.chains.specs.declared.kept.Failing as failingᵈ
use Rattle.chains.specs.declared.kept.Memory as memoryᵈ
use Rattle.chains.specs.declared.failing.Tried as triedᵈ
use Rattle.chains.specs.declared.list.Walked as walkedᵈ
use Rattle.chains.specs.Inside.Kept.{Chain, chain, TrueChain, begins_name, joins, Fails, Failing, failing, TrueFailing, Memory, memory, memory_of, TrueParts, TrueMemory, ListFrom}

abbrev pub chain_seen : chainᵈ.Chain → Chain
chain_seen c = chain (span_of c.name) (attr_of c.value) c.next c.end

abbrev pub failing_seen : failingᵈ.Failing → Failing
failing_seen f = failing (span_of f.dead) (span_of f.none)

abbrev pub memory_seen : memoryᵈ.Memory → Memory
memory_seen m = memory (chain_seen m.first) (chain_seen m.second) (failing_seen m.fails)

-- a pair that is given is there
abbrev pub PairOk : List ℕ → ℕ → Result (pairᵈ.Pair × ℕ) whyᵈ.Why → Type 0
PairOk text at (Err why) = Unit
PairOk text at (Ok v) = key_value_pair text at ≡ ok (pair_of v.0) v.1

-- the pair that is there, or none where the rule fails, whatever its reason
abbrev pub PairThere : List ℕ → ℕ → Result (pairᵈ.Pair × ℕ) whyᵈ.Why → Type 0
PairThere text at (Err why) = Fails text at
PairThere text at (Ok v) = key_value_pair text at ≡ ok (pair_of v.0) v.1

-- one more name is noted that makes no pair
abbrev pub NotesAs : List ℕ → ℕ → Failing → Failing → Type 0
NotesAs text at f g = TrueFailing text f → begins_name text at ≡ true → Fails text at → TrueFailing text g

abbrev pub TriedPair : List ℕ → ℕ → triedᵈ.Tried → Type 0
TriedPair text at r = PairThere text at r.pair × TrueFailing text (failing_seen r.fails)

abbrev pub WalkedFrom : List ℕ → List (List ℕ) → ℕ → List ℕ → List ℕ → walkedᵈ.Walked → Type 0
WalkedFrom text names at held₀ held r = ListFrom text names at held₀ held r.end × TrueFailing text (failing_seen r.fails)

-- ---- what each call of `list` promises, where what it is handed is true of the text
-- a walk beside a chain
abbrev pub WalksAs : List ℕ → List (List ℕ) → ℕ → Failing → Chain → List ℕ → List ℕ → List ℕ → walkedᵈ.Walked → Type 0
WalksAs text names at f other kept held₀ held r = TrueFailing text f → TrueChain text names other kept → length kept ≡ length held₀ → WalkedFrom text names at held₀ held r

-- beside one of the two that are kept
abbrev pub BesideAs : List ℕ → List (List ℕ) → ℕ → Memory → List ℕ → List ℕ → List ℕ → walkedᵈ.Walked → Type 0
BesideAs text names at p m held₀ held r = TrueParts text names p (length held₀) m → WalkedFrom text names at held₀ held r

-- a list whose first name begins at a place, within that of the chain's pair
abbrev pub JoinsAs : List ℕ → List (List ℕ) → ℕ → Chain → List ℕ → List ℕ → List ℕ → ℕ → Type 0
JoinsAs text names name c kept held₀ held end =
    TrueChain text names c kept → length kept ≡ length held₀ → joins text name c ≡ true → (at : ℕ) → name ≡ run_end is_space text at → ListFrom text names at held₀ held end

-- what is kept, with a new chain
abbrev pub RenewsAs : Memory → Chain → List ℕ → List ℕ → List ℕ → Type 0
RenewsAs p c held m₀ m =
    (text : List ℕ) (names : List (List ℕ)) → TrueParts text names p (length held) m₀ → TrueChain text names c held → TrueMemory text names (length held) m

-- a list that was read, and what is kept then
abbrev pub ReadAndKept : List ℕ → List (List ℕ) → ℕ → List ℕ → List ℕ → ℕ → List ℕ → Type 0
ReadAndKept text names at held₀ held end m = ListFrom text names at held₀ held end × TrueMemory text names (length held₀) m

-- the list that joins this one of two chains
abbrev pub JoinedAs : List ℕ → List (List ℕ) → ℕ → Memory → Chain → List ℕ → List ℕ → List ℕ → ℕ → List ℕ → Type 0
JoinedAs text names name p c m₀ held₀ held end m =
    TrueParts text names p (length held₀) m₀ → joins text name c ≡ true → (at : ℕ) → name ≡ run_end is_space text at → ReadAndKept text names at held₀ held end m

-- the list that begins with this pair, where nothing is held yet
abbrev pub BegunWith : List ℕ → List (List ℕ) → Pair → ℕ → Memory → List ℕ → List ℕ → List ℕ → ℕ → List ℕ → Type 0
BegunWith text names p after kept m₀ held₀ held end m =
    TrueParts text names kept (length held₀) m₀ → held₀ ≡ replicate (length held₀) 0 → (at : ℕ) → next_pair text at ≡ ok p after → ReadAndKept text names at held₀ held end m

abbrev pub BegunAs : List ℕ → List (List ℕ) → ℕ → Memory → List ℕ → List ℕ → List ℕ → ℕ → List ℕ → Type 0
BegunAs text names at kept m₀ held₀ held end m =
    TrueParts text names kept (length held₀) m₀ → held₀ ≡ replicate (length held₀) 0 → ReadAndKept text names at held₀ held end m

-- the list here, by what the words say
abbrev pub RememberedAs : List ℕ → List (List ℕ) → ℕ → List ℕ → List ℕ → List ℕ → ℕ → List ℕ → Type 0
RememberedAs text names at m₀ held₀ held end m = BegunAs text names at (memory_of m₀) m₀ held₀ held end m

-- the public call: all that one walk over the list says, and what is kept then
abbrev pub ListAs : List ℕ → ℕ → List ℕ → List ℕ → List ℕ → List ℕ → ℕ → List ℕ → List ℕ → Type 0
ListAs text at names sizes held₀ held end m₀ m =
    TrueMemory text (words names sizes) (length held₀) m₀ → LastOfEach text at names sizes held₀ held end × TrueMemory text (words names sizes) (length held₀) m
