-- The calls' answers, row by row of 02's request: the front that both share, and what its result tells. Rests on the laws of fronts and of the clock's.
-- Assumes nothing.
use mathlib.Core.Path.{◌≡◌, sym, ap, ◌∙◌}
use mathlib.Core.Bool.{◌&&◌, and-false, and-eq-true_iff}
use mathlib.Core.List.{List}
use Prim.Native.Nat.{ℕ, ◌/◌, ◌%◌, ◌≤◌, ◌<◌}
use native.Mathlib.Nat.{lt_of_not-le, div-add-mod', mod-lt}
use native.Mathlib.Omega.{arith}
use lib.Dec.{ltb}
use borrow.Author.Tests.{lt-ltb, le-ltb, ltb-true}
use Rattle.tables.specs.Refusal.{Answer, refused, given, nothing_plays, tick_too_late}
use Rattle.tables.proofs.Refusals.{Front, front_or, front_then, front_as}
use Rattle.clock.specs.Clock.{largest_total, largest_rate, turns, sum_lengths, moment_of, tick_of}
use Rattle.clock.specs.Inside.Ticks.{tick_at}
use Rattle.clock.proofs.Lengths.{sum_mono}
use Rattle.clock.proofs.Moments.{tick_in_reach}
use Rattle.clock.proofs.Calls.{AtRate, rate_front}
use Rattle.playing.specs.Playing.{Pair, pair, in_play, pair_on, clip_at, times_of, playing_at}
use Rattle.playing.specs.Inside.Moment.{last_moment, clip_within, InPlay}
use Rattle.playing.proofs.Pairs.{pair_is}

-- the end of the last turn, as the code has it
pub end_tick : (t : List ℕ) (n rate whole end : ℕ) → whole ≡ sum_lengths t n → whole ≤ largest_total → rate ≤ largest_rate → end ≡ tick_at turns whole 0 rate → end ≡ tick_of (moment_of t n turns 0) rate
unfolding moment_of sum_lengths
end_tick t n rate whole end e w r q = q ∙ (tick_in_reach turns whole 0 rate (omega arith) w (omega arith) r ∙ rw e)

-- ---- 9, 11, 12, 17, 18
pub record Plays (t : List ℕ) (n rate tick : ℕ) : Type 0 where
  pub at_rate : AtRate t n rate
  pub some_clips : 0 < n
  pub plays : 0 < sum_lengths t n
  pub in_time : tick < tick_of (moment_of t n turns 0) rate

-- where there is a total there is a clip
pub clips_of : (t : List ℕ) (n : ℕ) → 0 < sum_lengths t n → 0 < n
unfolding sum_lengths
clips_of t n h = lt_of_not-le (λ (z : n ≤ 0). omega (arith, sum_mono t n 0 z))

module _ (t : List ℕ) (n rate tick : ℕ) where
  pub play_front : Front (λ A x. in_play t n rate tick x) (Plays t n rate tick)
  unfolding in_play
  play_front =
      front_as _
      (λ h. let s = (and-eq-true_iff (ltb 0 n) (ltb 0 (sum_lengths t n))).0 h.1.0 in
      record { at_rate = h.0; some_clips = ltb-true 0 n s.0; plays = ltb-true 0 (sum_lengths t n) s.1; in_time = ltb-true tick (tick_of (moment_of t n turns 0) rate) h.1.1 })
      (λ g. (g.at_rate, (rw (lt-ltb 0 n g.some_clips, lt-ltb 0 (sum_lengths t n) g.plays), lt-ltb tick (tick_of (moment_of t n turns 0) rate) g.in_time)))
      (front_then _ _ (rate_front t n rate)
      (front_then _ _ (front_or nothing_plays 0 (ltb 0 n && ltb 0 (sum_lengths t n))) (front_or tick_too_late 0 (ltb tick (tick_of (moment_of t n turns 0) rate)))))

  module _ {A : Type 0} (x : Answer A) (g : AtRate t n rate) where
    pub play_17 : sum_lengths t n ≡ 0 → in_play t n rate tick x ≡ refused nothing_plays 0
    unfolding in_play
    play_17 z = (rate_front t n rate).on _ g ∙ rw (le-ltb 0 (sum_lengths t n) (omega arith), and-false (ltb 0 n))

    pub play_18 : 0 < sum_lengths t n → tick_of (moment_of t n turns 0) rate ≤ tick → in_play t n rate tick x ≡ refused tick_too_late 0
    unfolding in_play
    play_18 p l =
        (rate_front t n rate).on _ g
        ∙ rw (lt-ltb 0 n (clips_of t n p), lt-ltb 0 (sum_lengths t n) p, le-ltb tick (tick_of (moment_of t n turns 0) rate) l)

  -- what passed, as far as the pair needs it
  pub in_play_of : Plays t n rate tick → InPlay t n rate tick
  in_play_of g = record { short = g.at_rate.table.short; rate_low = g.at_rate.rate_low; rate_high = g.at_rate.rate_high; plays = g.plays; in_time = g.in_time }

  -- what was given is the total, and has passed
  pub play_result : (v : ℕ) → given v ≡ in_play t n rate tick (given (sum_lengths t n)) → Plays t n rate tick × (v ≡ sum_lengths t n)
  play_result v e =
      let g = play_front.passed _ v (sym e) in
      let q : given (sum_lengths t n) ≡ given v = g.1 in
      (g.0, cc)

  -- ---- the pair by its moment: the whole turns in it, and the last clip that has started in what is left
  abbrev pub by_moment : Pair
  by_moment = pair (last_moment rate tick / sum_lengths t n) (clip_within t n (last_moment rate tick % sum_lengths t n))

  pub pair_by_moment : Plays t n rate tick → pair_on t n rate tick ≡ by_moment
  pair_by_moment g =
      let p : 0 < sum_lengths t n = g.plays in
      pair_is t n rate tick (in_play_of g) (last_moment rate tick / sum_lengths t n) (last_moment rate tick % sum_lengths t n)
      (div-add-mod' (last_moment rate tick) (sum_lengths t n)) (mod-lt (last_moment rate tick) p)

  pub clip_at_given : Plays t n rate tick → clip_at t n rate tick ≡ given by_moment
  unfolding clip_at
  clip_at_given g = play_front.on _ g ∙ ap given (pair_by_moment g)

  pub playing_at_given : Plays t n rate tick → playing_at t n rate tick ≡ given (times_of t n rate tick by_moment)
  unfolding playing_at
  playing_at_given g = play_front.on _ g ∙ ap (λ (p : Pair). given (times_of t n rate tick p)) (pair_by_moment g)
