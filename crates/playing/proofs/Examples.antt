-- Worked examples. The rule looks at a million turns, so that an answer is computed by way of its moment (`clip_at_given`); a refusal is computed as it stands.
-- Assumes nothing.
use mathlib.Core.Path.{◌≡◌, refl, ◌∙◌}
use mathlib.Core.List.{List, [], ◌∷◌, ◌++◌, map}
use Prim.Native.Nat.{ℕ, ◌-◌, ◌*◌, ◌^◌}
use Rattle.tables.specs.Table.{every, fits}
use Rattle.tables.specs.Refusal.{Answer, refused, given, broken_table, total_too_long, bad_rate, nothing_plays, tick_too_late}
use Rattle.clock.specs.Clock.{keeps_rule, sum_lengths, moment_of, next_moment, tick_of}
use Rattle.clock.specs.Calls.{timed, at_rate}
use Rattle.clock.specs.Examples.{clip_of, sheet}
use Rattle.playing.specs.Playing.{pair, last_below, in_play, clip_at, playing, times_of, playing_at}
use Rattle.playing.specs.Inside.Moment.{last_moment, clip_within}
use Rattle.playing.proofs.Calls.{play_front, by_moment, clip_at_given, playing_at_given}

-- ticks that pass the refusals are answered by way of their moments
module _ (t : List ℕ) (n rate : ℕ) where
  abbrev passes : ℕ → Answer ℕ
  passes tick = in_play t n rate tick (given 0)

  on_ticks : (ticks : List ℕ) → map passes ticks ≡ map (λ tick. given 0) ticks → map (clip_at t n rate) ticks ≡ map (λ tick. given (by_moment t n rate tick)) ticks
  on_ticks [] e = refl
  on_ticks (tick ∷ ticks) e =
      let a : passes tick ≡ given 0 = cc in
      let b : map passes ticks ≡ map (λ x. given 0) ticks = cc in
      rw (clip_at_given t n rate tick ((play_front t n rate tick).passed _ 0 a).0, on_ticks ticks b)

  times_on : (ticks : List ℕ) → map passes ticks ≡ map (λ tick. given 0) ticks → map (playing_at t n rate) ticks ≡ map (λ tick. given (times_of t n rate tick (by_moment t n rate tick))) ticks
  times_on [] e = refl
  times_on (tick ∷ ticks) e =
      let a : passes tick ≡ given 0 = cc in
      let b : map passes ticks ≡ map (λ x. given 0) ticks = cc in
      rw (playing_at_given t n rate tick ((play_front t n rate tick).passed _ 0 a).0, times_on ticks b)

-- ---- 01's turn sheet: clips of 9.009, 0.004 and 3.003 s at 100 ticks a second start at 0, 900, 901; turn 1 at 1201; in turn 2 clips 1 and 2 both at 3304
abbrev asked : List ℕ
asked = 0 ∷ 899 ∷ 900 ∷ 901 ∷ 1200 ∷ 1201 ∷ 3303 ∷ 3304 ∷ 1201599999 ∷ []

on_the_sheet : map (clip_at sheet 3 100) asked
    ≡ given (pair 0 0) ∷ given (pair 0 0) ∷ given (pair 0 1) ∷ given (pair 0 2) ∷ given (pair 0 2) ∷ given (pair 1 0) ∷ given (pair 2 0) ∷ given (pair 2 2) ∷ given (pair 999999 2) ∷ []
unfolding in_play at_rate timed keeps_rule fits every sum_lengths moment_of tick_of last_moment clip_within last_below
on_the_sheet = on_ticks sheet 3 100 asked refl ∙ refl

-- since its start, and left until the next: 900 + 1 + 300, and the last pair up to turn 1,000,000
sheet_times : map (playing_at sheet 3 100) asked
    ≡ given (playing 0 0 0 900) ∷ given (playing 0 0 899 1) ∷ given (playing 0 1 0 1) ∷ given (playing 0 2 0 300) ∷ given (playing 0 2 299 1) ∷ given (playing 1 0 0 901)
    ∷ given (playing 2 0 900 1) ∷ given (playing 2 2 0 300) ∷ given (playing 999999 2 300 1) ∷ []
unfolding in_play at_rate timed keeps_rule fits every sum_lengths moment_of next_moment tick_of last_moment clip_within last_below
sheet_times = times_on sheet 3 100 asked refl ∙ refl

-- ---- "whose start tick is not after t": the tick counts and not the moment, so that of two clips of 0.5 s the second is on at tick 0 of one a second
halves : map (clip_at (clip_of 500000000 ++ clip_of 500000000) 2 1) (0 ∷ 1 ∷ []) ≡ given (pair 0 1) ∷ given (pair 1 1) ∷ []
unfolding in_play at_rate timed keeps_rule fits every sum_lengths moment_of tick_of last_moment clip_within last_below
halves = on_ticks (clip_of 500000000 ++ clip_of 500000000) 2 1 (0 ∷ 1 ∷ []) refl ∙ refl

-- "the last pair": of equal starts the last clip, so that a clip of length 0 is never on, at the front, in the middle or at the end
abbrev gaps : List ℕ
gaps = clip_of 0 ++ (clip_of 1000000000 ++ (clip_of 0 ++ (clip_of 1000000000 ++ clip_of 0)))

over_gaps : map (clip_at gaps 5 1) (0 ∷ 1 ∷ 2 ∷ 3 ∷ []) ≡ given (pair 0 1) ∷ given (pair 0 3) ∷ given (pair 1 1) ∷ given (pair 1 3) ∷ []
unfolding in_play at_rate timed keeps_rule fits every sum_lengths moment_of tick_of last_moment clip_within last_below
over_gaps = on_ticks gaps 5 1 (0 ∷ 1 ∷ 2 ∷ 3 ∷ []) refl ∙ refl

-- "up to turn 999,999": of turns within one tick the last; one clip of 1 ns at 1,000 ticks a second
short_turns : clip_at (clip_of 1) 1 1000 0 ∷ [] ≡ given (pair 999999 0) ∷ []
unfolding in_play at_rate timed keeps_rule fits every sum_lengths moment_of tick_of last_moment clip_within last_below
short_turns = on_ticks (clip_of 1) 1 1000 (0 ∷ []) refl ∙ refl

-- the largest tick that is answered: total 10^15 at the largest rate
largest : clip_at (clip_of (10 ^ 15)) 1 90000 (9 * 10 ^ 16 - 1) ∷ [] ≡ given (pair 999999 0) ∷ []
unfolding in_play at_rate timed keeps_rule fits every sum_lengths moment_of tick_of last_moment clip_within last_below
largest = on_ticks (clip_of (10 ^ 15)) 1 90000 ((9 * 10 ^ 16 - 1) ∷ []) refl ∙ refl

-- ---- 18: "t at or past the start tick of turn 1,000,000", and where that is tick 0 every tick
too_late : clip_at sheet 3 100 1201600000 ∷ clip_at sheet 3 100 (2 ^ 64 - 1) ∷ clip_at (clip_of (10 ^ 15)) 1 90000 (9 * 10 ^ 16) ∷ clip_at (clip_of 1) 1 1000 1 ∷ clip_at (clip_of 1) 1 999 0 ∷ []
    ≡ refused tick_too_late 0 ∷ refused tick_too_late 0 ∷ refused tick_too_late 0 ∷ refused tick_too_late 0 ∷ refused tick_too_late 0 ∷ []
unfolding clip_at in_play at_rate timed keeps_rule fits every sum_lengths moment_of tick_of
too_late = refl

-- ---- 17: "no clips or total 0"
silent : clip_at sheet 0 100 0 ∷ clip_at [] 0 1 0 ∷ clip_at (clip_of 0 ++ clip_of 0) 2 1 0 ∷ [] ≡ refused nothing_plays 0 ∷ refused nothing_plays 0 ∷ refused nothing_plays 0 ∷ []
unfolding clip_at in_play at_rate timed keeps_rule fits every sum_lengths moment_of tick_of
silent = refl

-- ---- "the clock's 9, 11, 12; then 17 ..; then 18", in that order, of both calls
in_order : clip_at sheet 4 0 (2 ^ 64 - 1) ∷ clip_at (clip_of (10 ^ 16)) 1 0 (2 ^ 64 - 1) ∷ clip_at [] 0 0 (2 ^ 64 - 1) ∷ clip_at [] 0 90001 (2 ^ 64 - 1) ∷ clip_at [] 0 1 (2 ^ 64 - 1) ∷ clip_at sheet 3 1 (2 ^ 64 - 1) ∷ []
    ≡ refused broken_table 0 ∷ refused total_too_long 0 ∷ refused bad_rate 0 ∷ refused bad_rate 0 ∷ refused nothing_plays 0 ∷ refused tick_too_late 0 ∷ []
unfolding clip_at in_play at_rate timed keeps_rule fits every sum_lengths moment_of tick_of
in_order = refl

in_order_too : playing_at sheet 4 0 (2 ^ 64 - 1) ∷ playing_at (clip_of (10 ^ 16)) 1 0 (2 ^ 64 - 1) ∷ playing_at [] 0 0 (2 ^ 64 - 1) ∷ playing_at [] 0 1 (2 ^ 64 - 1) ∷ playing_at sheet 3 1 (2 ^ 64 - 1) ∷ []
    ≡ refused broken_table 0 ∷ refused total_too_long 0 ∷ refused bad_rate 0 ∷ refused nothing_plays 0 ∷ refused tick_too_late 0 ∷ []
unfolding playing_at in_play at_rate timed keeps_rule fits every sum_lengths moment_of tick_of
in_order_too = refl
