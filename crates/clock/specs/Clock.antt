-- The clock's rules (01, "Lengths and clock"): what a table must keep, the moment at which a clip starts, and its tick. Whole numbers only.
-- Assumes nothing.
use Rattle.std.specs.Prelude.{Bool, ◌&&◌, cond, List, ℕ, zero, suc, ◌+◌, ◌-◌, ◌*◌, ◌/◌, ◌^◌, ltb}
use Rattle.tables.specs.Layout as layout
use Rattle.tables.specs.Table.{every, clips_fit, clip_word}
use Rattle.tables.specs.Layout.{second}

-- ---- limits
abbrev pub largest_total : ℕ
largest_total = 10 ^ 15

abbrev pub largest_rate : ℕ
largest_rate = 90000

abbrev pub last_turn : ℕ
last_turn = 999999

-- how many turns that makes; the last one ends where turn 1,000,000 would start
abbrev pub turns : ℕ
turns = last_turn + 1

-- ---- lengths
-- the length of clip k, in ns
abbrev pub length_of : List ℕ → ℕ → ℕ
length_of t k = clip_word t k layout.length_ns

-- the exact sum of the first n lengths
unfoldable pub sum_lengths : List ℕ → ℕ → ℕ
sum_lengths t zero = 0
sum_lengths t (suc n) = sum_lengths t n + length_of t n

-- rule 9, clock: the clip count fits, each word 2 below 10^18
unfoldable pub keeps_rule : List ℕ → ℕ → Bool
keeps_rule t n = clips_fit t n && every (λ k. ltb (length_of t k) layout.length_limit) n

-- ---- moments and ticks
-- the moment, in ns, at which a clip of n starts in a turn: turn x total + all earlier lengths
unfoldable pub moment_of : List ℕ → ℕ → ℕ → ℕ → ℕ
moment_of t n turn clip = turn * sum_lengths t n + sum_lengths t clip

-- the next start: after a turn's last clip it is the next turn's first
unfoldable pub next_moment : List ℕ → ℕ → ℕ → ℕ → ℕ
next_moment t n turn clip = cond (ltb (suc clip) n) (moment_of t n turn (suc clip)) (moment_of t n (suc turn) 0)

-- the tick of a moment m at a rate: the last whole one that is not after it
unfoldable pub tick_of : ℕ → ℕ → ℕ
tick_of m rate = m * rate / second

-- a clip's ticks in a turn: next start minus start
unfoldable pub ticks_of : List ℕ → ℕ → ℕ → ℕ → ℕ → ℕ
ticks_of t n rate turn clip = tick_of (next_moment t n turn clip) rate - tick_of (moment_of t n turn clip) rate

-- and those of the first k clips, summed
unfoldable pub sum_ticks : List ℕ → ℕ → ℕ → ℕ → ℕ → ℕ
sum_ticks t n rate turn zero = 0
sum_ticks t n rate turn (suc k) = sum_ticks t n rate turn k + ticks_of t n rate turn k
