-- The public calls' answers, row by row of 01's table: the fronts that calls share, and each call's value once they are passed.
-- Rests on the laws of fronts. Assumes nothing.
use mathlib.Core.Path.{◌≡◌, refl, ◌∙◌}
use mathlib.Core.Bool.{Bool, true, false, ◌&&◌, and-eq-true_iff}
use mathlib.Core.List.{List}
use Prim.Native.Nat.{ℕ, ◌+◌, ◌*◌, ◌≤◌, ◌<◌}
use lib.Dec.{leb, ltb}
use borrow.Author.Tests.{le-leb, lt-leb, leb-true, lt-ltb, le-ltb, ltb-true}
use Rattle.tables.specs.Refusal.{Answer, refused, given, or_refuse, broken_table, total_too_long, bad_rate, turn_too_late, no_such_clip}
use Rattle.tables.proofs.Refusals.{Front, front_or, front_then, front_as}
use Rattle.tables.specs.Layout.{second}
use Rattle.clock.specs.Clock.{largest_total, largest_rate, last_turn, sum_lengths, keeps_rule, moment_of, tick_of, ticks_of}
use Rattle.clock.specs.Calls.{timed, at_rate, in_turn, of_clip, start_ns, start_tick, clip_ticks}
use Rattle.clock.proofs.Moments.{tick_low, tick_high}

-- ---- 9, 11
pub record Timed (t : List ℕ) (n : ℕ) : Type 0 where
  pub keeps : keeps_rule t n ≡ true
  pub short : sum_lengths t n ≤ largest_total

module _ (t : List ℕ) (n : ℕ) where
  pub timed_front : Front (λ A x. timed t n x) (Timed t n)
  unfolding timed
  timed_front =
      front_as _
      (λ h. record { keeps = h.0; short = leb-true (sum_lengths t n) largest_total h.1 })
      (λ g. (g.keeps, le-leb (sum_lengths t n) largest_total g.short))
      (front_then _ _ (front_or broken_table 0 (keeps_rule t n)) (front_or total_too_long 0 (leb (sum_lengths t n) largest_total)))

  module _ {A : Type 0} (x : Answer A) where
    pub timed_9 : keeps_rule t n ≡ false → timed t n x ≡ refused broken_table 0
    unfolding timed
    timed_9 e = rw e

    pub timed_11 : keeps_rule t n ≡ true → largest_total < sum_lengths t n → timed t n x ≡ refused total_too_long 0
    unfolding timed
    timed_11 e h = rw (e, lt-leb (sum_lengths t n) largest_total h)

-- ---- 12
pub record AtRate (t : List ℕ) (n rate : ℕ) : Type 0 where
  pub table : Timed t n
  pub rate_low : 1 ≤ rate
  pub rate_high : rate ≤ largest_rate

module _ (t : List ℕ) (n rate : ℕ) where
  pub rate_front : Front (λ A x. at_rate t n rate x) (AtRate t n rate)
  unfolding at_rate
  rate_front =
      front_as _
      (λ h. let r = (and-eq-true_iff (leb 1 rate) (leb rate largest_rate)).0 h.1 in
      record { table = h.0; rate_low = leb-true 1 rate r.0; rate_high = leb-true rate largest_rate r.1 })
      (λ g. (g.table, rw (le-leb 1 rate g.rate_low, le-leb rate largest_rate g.rate_high)))
      (front_then _ _ (timed_front t n) (front_or bad_rate 0 (leb 1 rate && leb rate largest_rate)))

  module _ {A : Type 0} (x : Answer A) (g : Timed t n) where
    pub rate_12 : (1 ≤ rate → largest_rate < rate) → at_rate t n rate x ≡ refused bad_rate 0
    unfolding at_rate
    rate_12 h = (timed_front t n).on _ g ∙ by_rate (leb 1 rate) refl
      where
        by_rate : (b : Bool) → leb 1 rate ≡ b → or_refuse (leb 1 rate && leb rate largest_rate) bad_rate 0 x ≡ refused bad_rate 0
        by_rate true e = rw (e, lt-leb rate largest_rate (h (leb-true 1 rate e)))
        by_rate false e = rw e

-- ---- 13
pub record InTurn (t : List ℕ) (n rate turn : ℕ) : Type 0 where
  pub table : Timed t n
  pub rate_low : 1 ≤ rate
  pub rate_high : rate ≤ largest_rate
  pub turn_high : turn ≤ last_turn

-- a turn at a rate, and the rate of a turn
module _ (t : List ℕ) (n rate turn : ℕ) where
  pub turn_at : AtRate t n rate → turn ≤ last_turn → InTurn t n rate turn
  turn_at g h = record { table = g.table; rate_low = g.rate_low; rate_high = g.rate_high; turn_high = h }

  pub rate_of : InTurn t n rate turn → AtRate t n rate
  rate_of g = record { table = g.table; rate_low = g.rate_low; rate_high = g.rate_high }

module _ (t : List ℕ) (n rate turn : ℕ) where
  pub turn_front : Front (λ A x. in_turn t n rate turn x) (InTurn t n rate turn)
  unfolding in_turn
  turn_front =
      front_as _
      (λ h. turn_at t n rate turn h.0 (leb-true turn last_turn h.1))
      (λ g. (rate_of t n rate turn g, le-leb turn last_turn g.turn_high))
      (front_then _ _ (rate_front t n rate) (front_or turn_too_late 0 (leb turn last_turn)))

  pub turn_13 : {A : Type 0} (x : Answer A) → AtRate t n rate → last_turn < turn → in_turn t n rate turn x ≡ refused turn_too_late 0
  unfolding in_turn
  turn_13 x g u = (rate_front t n rate).on _ g ∙ rw (lt-leb turn last_turn u)

-- ---- 14
module _ (n clip : ℕ) where
  pub clip_front : Front (λ A x. of_clip n clip x) (clip < n)
  unfolding of_clip
  clip_front = front_as _ (ltb-true clip n) (lt-ltb clip n) (front_or no_such_clip 0 (ltb clip n))

  pub clip_14 : {A : Type 0} (x : Answer A) → n ≤ clip → of_clip n clip x ≡ refused no_such_clip 0
  unfolding of_clip
  clip_14 x h = rw (le-ltb clip n h)

-- ---- the values
pub start_ns_given : (t : List ℕ) (n clip : ℕ) → Timed t n → clip < n → start_ns t n clip ≡ given (sum_lengths t clip)
unfolding start_ns
start_ns_given t n clip g h = (timed_front t n).on _ g ∙ (clip_front n clip).on _ h

module _ (t : List ℕ) (n rate turn clip : ℕ) where
  -- 9 to 14, as one front
  pub clip_turn_front : Front (λ A x. in_turn t n rate turn (of_clip n clip x)) (InTurn t n rate turn × (clip < n))
  clip_turn_front = front_then _ _ (turn_front t n rate turn) (clip_front n clip)

  pub start_tick_given : InTurn t n rate turn → clip < n → start_tick t n rate turn clip ≡ given (tick_of (moment_of t n turn clip) rate)
  unfolding start_tick
  start_tick_given g h = clip_turn_front.on _ (g, h)

  pub clip_ticks_given : InTurn t n rate turn → clip < n → clip_ticks t n rate turn clip ≡ given (ticks_of t n rate turn clip)
  unfolding clip_ticks
  clip_ticks_given g h = clip_turn_front.on _ (g, h)

  -- the tick that `start_tick` answers is within one tick of the clip's moment, in the last turn as in the first
  pub start_tick_within : (x : ℕ) → start_tick t n rate turn clip ≡ given x
      → (x * second ≤ moment_of t n turn clip * rate) × (moment_of t n turn clip * rate < (x + 1) * second)
  unfolding start_tick
  start_tick_within x e =
      let m = moment_of t n turn clip in
      let q : given (tick_of m rate) ≡ given x = (clip_turn_front.passed _ x e).1 in
      let i : tick_of m rate ≡ x = cc in
      (rw i at (tick_low m rate), rw i at (tick_high m rate))
