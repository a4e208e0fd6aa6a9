-- The two ticks that `playing_at` works out are the start of its pair and the next start, so that since and left are the rule's. Rests on `start_not_after`,
-- `next_after`. Assumes nothing.
use mathlib.Core.Path.{◌≡◌, sym, ap, ◌∙◌}
use mathlib.Core.List.{List}
use Prim.Native.Nat.{ℕ, suc, ◌+◌, ◌-◌, ◌≤◌}
use native.Mathlib.Numerals.{add-one}
use native.Mathlib.Omega.{arith}
use Rattle.tables.specs.Refusal.{given}
use Rattle.clock.specs.Clock.{largest_total, sum_lengths, moment_of, next_moment, tick_of}
use Rattle.clock.specs.Inside.Ticks.{tick_at}
use Rattle.clock.proofs.Lengths.{sum_mono, sum_step}
use Rattle.clock.proofs.Moments.{tick_in_reach, next_moment_lem}
use Rattle.playing.specs.Playing.{Pair, pair, clip_at, playing, times_of, playing_at}
use Rattle.playing.specs.Inside.Moment.{SpotAt}
use Rattle.playing.proofs.Calls.{Plays, play_front}
use Rattle.playing.proofs.Agrees.{start_not_after, next_after}

module _ (t : List ℕ) (n rate tick whole turn clip before length : ℕ) (g : Plays t n rate tick) (w : whole ≡ sum_lengths t n) (s : SpotAt t n rate tick turn clip before length) where
  pub on_given : clip_at t n rate tick ≡ given (pair turn clip)
  unfolding clip_at
  on_given = (play_front t n rate tick).on _ g ∙ ap given (sym s.is_on)

  -- the clip ends within the turn
  pub ends_within : before + length ≤ whole
  ends_within = omega (arith, w, s.before_it, s.its_own, sum_step t clip, sum_mono t (clip + 1) n (omega (arith, s.in_list)))

  pub whole_short : whole ≤ largest_total
  whole_short = omega (arith, w, g.at_rate.table.short)

  module _ (start next : ℕ) (a : start ≡ tick_at turn whole before rate) (b : next ≡ tick_at turn whole (before + length) rate) where
    start_is : start ≡ tick_of (moment_of t n turn clip) rate
    unfolding moment_of
    start_is =
        a ∙ (tick_in_reach turn whole before rate (omega (arith, s.in_turn)) whole_short (omega (arith, ends_within)) g.at_rate.rate_high
        ∙ rw (w, s.before_it))

    next_is : next ≡ tick_of (next_moment t n turn clip) rate
    unfolding moment_of
    next_is =
        let e : before + length ≡ sum_lengths t (suc clip) = omega (arith, s.before_it, s.its_own, sum_step t clip, ap (sum_lengths t) (add-one clip)) in
        b ∙ (tick_in_reach turn whole (before + length) rate (omega (arith, s.in_turn)) whole_short ends_within g.at_rate.rate_high
        ∙ rw (w, e, next_moment_lem t n turn clip s.in_list))

    -- neither passes the tick, and what is between them and it is the rule's
    pub in_hand : (start ≤ tick) × (tick ≤ next) × (playing_at t n rate tick ≡ given (playing turn clip (tick - start) (next - tick)))
    unfolding playing_at
    in_hand = (
      omega (arith, start_is, start_not_after t n rate tick turn clip on_given),
      omega (arith, next_is, next_after t n rate tick turn clip on_given),
      (play_front t n rate tick).on _ g
          ∙ (ap (λ (p : Pair). given (times_of t n rate tick p)) (sym s.is_on)
          ∙ rw (start_is, next_is)),
    )
