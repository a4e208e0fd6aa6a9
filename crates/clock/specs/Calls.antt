-- What each public call answers: 01's refusals in its order, then the value. Every refusal is at place 0.
-- Assumes nothing.
use Rattle.std.specs.Prelude.{◌&&◌, List, ℕ, leb, ltb}
use Rattle.tables.specs.Refusal.{Answer, given, or_refuse, broken_table, total_too_long, bad_rate, turn_too_late, no_such_clip}
use Rattle.clock.specs.Clock.{largest_total, largest_rate, last_turn, sum_lengths, keeps_rule, moment_of, tick_of, ticks_of}

-- 9, 11: what every call weighs first
unfoldable pub timed : {A : Type 0} → List ℕ → ℕ → Answer A → Answer A
timed t n rest =
    or_refuse (keeps_rule t n) broken_table 0
    (or_refuse (leb (sum_lengths t n) largest_total) total_too_long 0
    rest)

-- then 12: what every call weighs first that answers by ticks
unfoldable pub at_rate : {A : Type 0} → List ℕ → ℕ → ℕ → Answer A → Answer A
at_rate t n rate rest =
    timed t n
    (or_refuse (leb 1 rate && leb rate largest_rate) bad_rate 0
    rest)

-- then 13: what every call weighs first that answers by ticks of a turn
unfoldable pub in_turn : {A : Type 0} → List ℕ → ℕ → ℕ → ℕ → Answer A → Answer A
in_turn t n rate turn rest =
    at_rate t n rate
    (or_refuse (leb turn last_turn) turn_too_late 0
    rest)

-- then 14
unfoldable pub of_clip : {A : Type 0} → ℕ → ℕ → Answer A → Answer A
of_clip n clip rest = or_refuse (ltb clip n) no_such_clip 0 rest

-- 9, 11
unfoldable pub total : List ℕ → ℕ → Answer ℕ
total t n = timed t n (given (sum_lengths t n))

-- 9, 11, 14
unfoldable pub start_ns : List ℕ → ℕ → ℕ → Answer ℕ
start_ns t n clip = timed t n (of_clip n clip (given (sum_lengths t clip)))

-- 9, 11, 12, 13, 14
unfoldable pub start_tick : List ℕ → ℕ → ℕ → ℕ → ℕ → Answer ℕ
start_tick t n rate turn clip = in_turn t n rate turn (of_clip n clip (given (tick_of (moment_of t n turn clip) rate)))

-- 9, 11, 12, 13, 14
unfoldable pub clip_ticks : List ℕ → ℕ → ℕ → ℕ → ℕ → Answer ℕ
clip_ticks t n rate turn clip = in_turn t n rate turn (of_clip n clip (given (ticks_of t n rate turn clip)))
