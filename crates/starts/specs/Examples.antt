-- 01's turn sheet by computation over the rules: the cursor's steps, and the table. Assumes nothing.
use Rattle.std.specs.Prelude.{◌≡◌, refl, List, [], ◌∷◌, map, ℕ}
use Rattle.tables.specs.Table.{every, records, fits}
use Rattle.tables.specs.Refusal.{given, refused, laid, broken_table, bad_rate, turn_too_late, output_short}
use Rattle.clock.specs.Clock.{keeps_rule, sum_lengths, moment_of, tick_of}
use Rattle.clock.specs.Calls.{timed, at_rate, in_turn}
use Rattle.clock.specs.Examples.{sheet}
use Rattle.starts.specs.Starts.{cursor, row, done, clip, starts, in_limits, next}
use Rattle.starts.specs.Table.{start_records, all_starts}

-- ---- the cursor: rows 0, 1, 2, then done
pass_opens : starts sheet 3 100 0 ≡ given (cursor 3 100 0 12016000000 0 0)
unfolding starts in_turn at_rate timed keeps_rule fits every sum_lengths
pass_opens = refl

pass_rows : map (next sheet) (cursor 3 100 0 12016000000 0 0 ∷ cursor 3 100 0 12016000000 1 9009000000 ∷ cursor 3 100 0 12016000000 2 9013000000 ∷ cursor 3 100 0 12016000000 3 12016000000 ∷ [])
    ≡ given (clip (row 0 0 9009000000 0) (cursor 3 100 0 12016000000 1 9009000000))
    ∷ given (clip (row 1 9009000000 4000000 900) (cursor 3 100 0 12016000000 2 9013000000))
    ∷ given (clip (row 2 9013000000 3003000000 901) (cursor 3 100 0 12016000000 3 12016000000))
    ∷ given done ∷ []
unfolding next in_limits tick_of
pass_rows = refl

-- ---- the table: the starts of turn 2 at 100 ticks a second; clip 1 starts at tick 3304
turn_2 : start_records sheet 3 100 2 3 ≡ 0 ∷ 2403 ∷ 9009000000 ∷ 3304 ∷ 9013000000 ∷ 3304 ∷ []
unfolding records sum_lengths moment_of tick_of
turn_2 = refl

-- six words are enough, five are not, and a seventh stays as it was
abbrev after : List ℕ → List ℕ
after out = laid (all_starts sheet 3 100 2 out) (start_records sheet 3 100 2 3) out

tables : map after ((7 ∷ 7 ∷ 7 ∷ 7 ∷ 7 ∷ 7 ∷ []) ∷ (7 ∷ 7 ∷ 7 ∷ 7 ∷ 7 ∷ []) ∷ (7 ∷ 7 ∷ 7 ∷ 7 ∷ 7 ∷ 7 ∷ 7 ∷ []) ∷ [])
    ≡ (0 ∷ 2403 ∷ 9009000000 ∷ 3304 ∷ 9013000000 ∷ 3304 ∷ [])
    ∷ (7 ∷ 7 ∷ 7 ∷ 7 ∷ 7 ∷ [])
    ∷ (0 ∷ 2403 ∷ 9009000000 ∷ 3304 ∷ 9013000000 ∷ 3304 ∷ 7 ∷ [])
    ∷ []
unfolding all_starts records in_turn at_rate timed keeps_rule fits every sum_lengths moment_of tick_of
tables = refl

-- no clips need no words
no_clips : all_starts [] 0 1 0 [] ≡ given 0
unfolding all_starts in_turn at_rate timed keeps_rule fits every sum_lengths
no_clips = refl

-- 9, 12, 13, 10 in that order
in_order : all_starts sheet 4 0 1000000 [] ∷ all_starts sheet 3 0 1000000 [] ∷ all_starts sheet 3 1 1000000 [] ∷ all_starts sheet 3 1 0 [] ∷ []
    ≡ refused broken_table 0 ∷ refused bad_rate 0 ∷ refused turn_too_late 0 ∷ refused output_short 0 ∷ []
unfolding all_starts in_turn at_rate timed keeps_rule fits every sum_lengths
in_order = refl
