-- 01's worked example by computation over the rules, then both sides of each limit.
-- Assumes nothing.
use Rattle.std.specs.Prelude.{◌≡◌, refl, List, [], ◌∷◌, ◌++◌, map, ℕ, ◌-◌, ◌^◌, replicate, set}
use Rattle.tables.specs.Layout as layout
use Rattle.tables.specs.Table.{every, fits}
use Rattle.tables.specs.Refusal.{given, refused, broken_table, total_too_long, bad_rate, turn_too_late, no_such_clip}
use Rattle.clock.specs.Clock.{keeps_rule, sum_lengths, moment_of, next_moment, tick_of, ticks_of}
use Rattle.clock.specs.Calls.{timed, at_rate, in_turn, of_clip, total, start_ns, start_tick, clip_ticks}

-- a record of zeros but for its length
abbrev pub clip_of : ℕ → List ℕ
clip_of ns = set (replicate layout.clip_words 0) layout.length_ns ns

-- ---- the turn sheet: clips of 9.009, 0.004 and 3.003 s
abbrev pub sheet : List ℕ
sheet = clip_of 9009000000 ++ (clip_of 4000000 ++ clip_of 3003000000)

sheet_total : total sheet 3 ≡ given 12016000000
unfolding total timed keeps_rule fits every sum_lengths
sheet_total = refl

sheet_starts : map (start_ns sheet 3) (0 ∷ 1 ∷ 2 ∷ []) ≡ given 0 ∷ given 9009000000 ∷ given 9013000000 ∷ []
unfolding start_ns of_clip timed keeps_rule fits every sum_lengths
sheet_starts = refl

sheet_ticks : map (start_tick sheet 3 100 0) (0 ∷ 1 ∷ 2 ∷ []) ≡ given 0 ∷ given 900 ∷ given 901 ∷ []
unfolding start_tick of_clip in_turn at_rate timed keeps_rule fits every sum_lengths moment_of tick_of
sheet_ticks = refl

-- clip 1 in turn 2 starts at tick 3304
turn_2 : start_tick sheet 3 100 2 1 ≡ given 3304
unfolding start_tick of_clip in_turn at_rate timed keeps_rule fits every sum_lengths moment_of tick_of
turn_2 = refl

-- a clip's ticks: 900 + 1 + 300 make turn 1's start, 1201
sheet_clip_ticks : map (clip_ticks sheet 3 100 0) (0 ∷ 1 ∷ 2 ∷ []) ≡ given 900 ∷ given 1 ∷ given 300 ∷ []
unfolding clip_ticks ticks_of next_moment of_clip in_turn at_rate timed keeps_rule fits every sum_lengths moment_of tick_of
sheet_clip_ticks = refl

turn_1 : start_tick sheet 3 100 1 0 ≡ given 1201
unfolding start_tick of_clip in_turn at_rate timed keeps_rule fits every sum_lengths moment_of tick_of
turn_1 = refl

-- tempting and wrong: lengths already cut to ticks, 900 + 0 + 300, make 1200
tempting : map (λ ns. tick_of ns 100) (9009000000 ∷ 4000000 ∷ 3003000000 ∷ []) ≡ 900 ∷ 0 ∷ 300 ∷ []
unfolding tick_of
tempting = refl

-- ---- 9: a count that doesn't fit, a length of 10^18, words and counts of 2^64 - 1
too_many : map (total sheet) (4 ∷ (2 ^ 64 - 1) ∷ []) ≡ refused broken_table 0 ∷ refused broken_table 0 ∷ []
unfolding total timed keeps_rule fits every sum_lengths
too_many = refl

no_clips : total [] 0 ≡ given 0
unfolding total timed keeps_rule fits every sum_lengths
no_clips = refl

lengths : map (λ ns. total (clip_of ns) 1) ((10 ^ 18 - 1) ∷ (10 ^ 18) ∷ (2 ^ 64 - 1) ∷ []) ≡ refused total_too_long 0 ∷ refused broken_table 0 ∷ refused broken_table 0 ∷ []
unfolding total timed keeps_rule fits every sum_lengths
lengths = refl

-- ---- 11: 10^15 and one more
totals : map (λ ns. total (clip_of ns ++ clip_of 1) 2) ((10 ^ 15 - 1) ∷ (10 ^ 15) ∷ []) ≡ given (10 ^ 15) ∷ refused total_too_long 0 ∷ []
unfolding total timed keeps_rule fits every sum_lengths
totals = refl

-- ---- 12: rates 0, 1, 90,000 and 90,001
rates : map (λ rate. start_tick sheet 3 rate 0 1) (0 ∷ 1 ∷ 90000 ∷ 90001 ∷ []) ≡ refused bad_rate 0 ∷ given 9 ∷ given 810810 ∷ refused bad_rate 0 ∷ []
unfolding start_tick of_clip in_turn at_rate timed keeps_rule fits every sum_lengths moment_of tick_of
rates = refl

-- ---- 13: turns 999,999 and 1,000,000
turns : map (λ turn. start_tick sheet 3 100 turn 0) (999999 ∷ 1000000 ∷ []) ≡ given 1201598798 ∷ refused turn_too_late 0 ∷ []
unfolding start_tick of_clip in_turn at_rate timed keeps_rule fits every sum_lengths moment_of tick_of
turns = refl

-- ---- 14: the clip after the last
start_ns_past : start_ns sheet 3 3 ≡ refused no_such_clip 0
unfolding start_ns of_clip timed keeps_rule fits every sum_lengths
start_ns_past = refl

start_tick_past : start_tick sheet 3 90000 999999 3 ≡ refused no_such_clip 0
unfolding start_tick of_clip in_turn at_rate timed keeps_rule fits every sum_lengths moment_of tick_of
start_tick_past = refl

-- the last clip of the last turn ends where turn 1,000,000 would start
last_clip_ticks : map (clip_ticks sheet 3 100 999999) (2 ∷ 3 ∷ []) ≡ given 301 ∷ refused no_such_clip 0 ∷ []
unfolding clip_ticks ticks_of next_moment of_clip in_turn at_rate timed keeps_rule fits every sum_lengths moment_of tick_of
last_clip_ticks = refl

-- ---- 9, 11, 12, 13, 14 in that order
in_order : start_tick sheet 4 0 1000000 9 ∷ start_tick (clip_of (10 ^ 16)) 1 0 1000000 9 ∷ start_tick sheet 3 0 1000000 9 ∷ start_tick sheet 3 1 1000000 9 ∷ start_tick sheet 3 1 0 9 ∷ []
    ≡ refused broken_table 0 ∷ refused total_too_long 0 ∷ refused bad_rate 0 ∷ refused turn_too_late 0 ∷ refused no_such_clip 0 ∷ []
unfolding start_tick of_clip in_turn at_rate timed keeps_rule fits every sum_lengths moment_of tick_of
in_order = refl
