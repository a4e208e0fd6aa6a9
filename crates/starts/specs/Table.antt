-- All starts of a turn into a lent table (02, [2]): two words a clip, its start in ns within the turn and its start tick.
-- Assumes nothing.
use Rattle.std.specs.Prelude.{List, [], ◌∷◌, ℕ, Result}
use Rattle.tables.specs.Table.{records, starts_fit}
use Rattle.tables.specs.declared.Refusal as refusalᵈ
use Rattle.tables.specs.Answers.{LaidAs}
use Rattle.tables.specs.Refusal.{Answer, given, or_refuse, output_short}
use Rattle.clock.specs.Clock.{sum_lengths, moment_of, tick_of}
use Rattle.clock.specs.Calls.{in_turn}

-- the words of clip k of n
abbrev pub start_record : List ℕ → ℕ → ℕ → ℕ → ℕ → List ℕ
start_record t n rate turn k = sum_lengths t k ∷ tick_of (moment_of t n turn k) rate ∷ []

-- and those of the first k, in their order
abbrev pub start_records : List ℕ → ℕ → ℕ → ℕ → ℕ → List ℕ
start_records t n rate turn k = records (start_record t n rate turn) k

-- 9, 11, 12, 13; then 10, "where the table is too short"; else how many clips there are
unfoldable pub all_starts : List ℕ → ℕ → ℕ → ℕ → List ℕ → Answer ℕ
all_starts t n rate turn out =
    in_turn t n rate turn
    (or_refuse (starts_fit out n) output_short 0
    (given n))

-- all that the call says: its answer, and each word of the table after it
abbrev pub StartsAs : List ℕ → ℕ → ℕ → ℕ → List ℕ → List ℕ → Result ℕ refusalᵈ.Refusal → Type 0
StartsAs t n rate turn out₀ out r = LaidAs (all_starts t n rate turn out₀) (start_records t n rate turn n) out₀ out r
