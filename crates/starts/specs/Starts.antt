-- All starts of a turn in one pass: what opens the pass, and what each step gives.
-- Assumes nothing.
use Rattle.std.specs.Prelude.{Bool, ◌&&◌, cond, List, ℕ, suc, ◌+◌, ◌*◌, leb, ltb}
use Rattle.tables.specs.Refusal.{Answer, given, or_refuse, broken_table}
use Rattle.clock.specs.Clock.{largest_total, largest_rate, last_turn, length_of, sum_lengths, tick_of}
use Rattle.clock.specs.Calls.{in_turn}

-- where a pass stands: count, rate, turn and total; the next clip and the sum of the lengths before it
pub data Cursor : Type 0 where
  cursor : ℕ → ℕ → ℕ → ℕ → ℕ → ℕ → Cursor

-- a clip's number, start in ns, length in ns, start tick
pub data Row : Type 0 where
  row : ℕ → ℕ → ℕ → ℕ → Row

pub data Step : Type 0 where
  done : Step
  clip : Row → Cursor → Step

-- 9, 11, 12, 13, else the cursor before the first clip
unfoldable pub starts : List ℕ → ℕ → ℕ → ℕ → Answer Cursor
starts t n rate turn = in_turn t n rate turn (given (cursor n rate turn (sum_lengths t n) 0 0))

-- a step over this length stays in the clock's limits and within the total
unfoldable pub in_limits : Cursor → ℕ → Bool
in_limits (cursor n rate turn total k before) length = leb rate largest_rate && (leb turn last_turn && (leb total largest_total && leb (before + length) total))

-- after the last clip the pass is done; 9, where the words can't be those that it was opened on; else the clip, and the cursor after it
unfoldable pub next : List ℕ → Cursor → Answer Step
next t (cursor n rate turn total k before) =
    cond (ltb k n)
    (or_refuse (in_limits (cursor n rate turn total k before) (length_of t k)) broken_table 0
    (given (clip
    (row k before (length_of t k) (tick_of (turn * total + before) rate))
    (cursor n rate turn total (suc k) (before + length_of t k)))))
    (given done)
