-- Ticks over the clock's definitions, as 01 asks: within one tick of the moment, the only such number, never falling, and summing to the turn's.
-- Rests on `sum_mono`. Assumes nothing.
use mathlib.Core.Path.{◌≡◌, refl, sym, ap, ◌∙◌}
use mathlib.Core.Bool.{Bool, true, false, cond, and-eq-true_iff}
use mathlib.Core.List.{List}
use Prim.Native.Nat.{ℕ, zero, suc, ◌+◌, ◌-◌, ◌*◌, ◌/◌, ◌%◌, ◌≤◌, ◌<◌}
use native.Mathlib.Nat.{mul-le-mul_right, div-mul-le_self, div-add-mod', lt-div-mul-add, mul-add-div_right}
use native.Mathlib.Omega.{arith}
use lib.Dec.{lit<, leb, ltb}
use borrow.Author.Tests.{ltb-false, le-leb, leb-true}
use Rattle.tables.specs.Layout.{second}
use Rattle.clock.specs.Clock.{largest_total, largest_rate, turns, sum_lengths, moment_of, next_moment, tick_of, ticks_of, sum_ticks}
use Rattle.clock.specs.Inside.Ticks.{in_reach, tick_at}
use Rattle.clock.proofs.Lengths.{sum_mono}

-- ---- one tick
-- a tick is not after its moment, and the next tick is: t x 10^9 <= m x r < (t + 1) x 10^9
pub tick_low : (m rate : ℕ) → tick_of m rate * second ≤ m * rate
unfolding tick_of
tick_low m rate = div-mul-le_self (m * rate) second

pub tick_high : (m rate : ℕ) → m * rate < (tick_of m rate + 1) * second
unfolding tick_of
tick_high m rate = omega (arith, lt-div-mul-add {a = m * rate} {b = second} (lit< tt))

-- no other number is
pub tick_only : (m rate t : ℕ) → t * second ≤ m * rate → m * rate < (t + 1) * second → tick_of m rate ≡ t
unfolding tick_of
tick_only m rate t l h = omega arith

-- a later moment has no earlier tick
pub tick_mono : (m n rate : ℕ) → m ≤ n → tick_of m rate ≤ tick_of n rate
unfolding tick_of
tick_mono m n rate h = omega (arith, mul-le-mul_right rate h)

-- ---- the moments of a turn
module _ (t : List ℕ) (n : ℕ) where
  pub moment_mono : (turn i j : ℕ) → i ≤ j → moment_of t n turn i ≤ moment_of t n turn j
  unfolding moment_of
  moment_mono turn i j h = omega (arith, sum_mono t i j h)

  -- a turn ends where the next begins
  pub turn_ends : (turn : ℕ) → moment_of t n turn n ≡ moment_of t n (suc turn) 0
  unfolding moment_of sum_lengths
  turn_ends turn = omega arith

  -- so the next start is the end of the clip, the last clip's too
  pub next_moment_lem : (turn clip : ℕ) → clip < n → next_moment t n turn clip ≡ moment_of t n turn (suc clip)
  unfolding next_moment
  next_moment_lem turn clip h = go (ltb (suc clip) n) refl
    where
      go : (b : Bool) → ltb (suc clip) n ≡ b → next_moment t n turn clip ≡ moment_of t n turn (suc clip)
      go true e = rw e
      go false e = let last : n ≡ suc clip = omega (arith, ltb-false (suc clip) n e) in rw e (sym (turn_ends turn) ∙ ap (moment_of t n turn) last)

-- ---- ticks never fall
module _ (t : List ℕ) (n rate : ℕ) where
  -- from clip to clip
  pub clips_rise : (turn i j : ℕ) → i ≤ j → tick_of (moment_of t n turn i) rate ≤ tick_of (moment_of t n turn j) rate
  clips_rise turn i j h = tick_mono (moment_of t n turn i) (moment_of t n turn j) rate (moment_mono t n turn i j h)

  -- from turn to turn, any clip of the one to any clip of the other
  pub turns_rise : (turn later i j : ℕ) → turn < later → i ≤ n → tick_of (moment_of t n turn i) rate ≤ tick_of (moment_of t n later j) rate
  unfolding moment_of
  turns_rise turn later i j h l =
      tick_mono (moment_of t n turn i) (moment_of t n later j) rate
      (omega (arith, sum_mono t i n l, mul-le-mul_right (sum_lengths t n) h))

  -- ---- the ticks of a turn's first k clips make the tick reached
  pub ticks_reach : (turn k : ℕ) → k ≤ n → tick_of (moment_of t n turn 0) rate + sum_ticks t n rate turn k ≡ tick_of (moment_of t n turn k) rate
  unfolding sum_ticks ticks_of
  ticks_reach turn zero l = omega arith
  ticks_reach turn (suc k) l =
      let e : tick_of (next_moment t n turn k) rate ≡ tick_of (moment_of t n turn (suc k)) rate = rw (next_moment_lem t n turn k l) in
      omega (arith, ticks_reach turn k (omega arith), clips_rise turn k (suc k) (omega arith))

  -- a turn's clip ticks sum to the turn's: from its first start to the next turn's
  pub turn_ticks : (turn : ℕ) → sum_ticks t n rate turn n ≡ tick_of (moment_of t n (suc turn) 0) rate - tick_of (moment_of t n turn 0) rate
  turn_ticks turn =
      let e : tick_of (moment_of t n turn n) rate ≡ tick_of (moment_of t n (suc turn) 0) rate = ap (λ (m : ℕ). tick_of m rate) (turn_ends t n turn) in
      omega (arith, ticks_reach turn n (omega arith))

-- ---- a tick in 64 bits: of turn x whole + before, the seconds and the ns left over are multiplied apart
tick_split : (seconds nanos rate : ℕ) → tick_of (seconds * second + nanos) rate ≡ seconds * rate + nanos * rate / second
unfolding tick_of
tick_split seconds nanos rate =
    let e : (seconds * second + nanos) * rate ≡ seconds * rate * second + nanos * rate = omega arith in
    rw e (mul-add-div_right {m = second} (lit< tt) (seconds * rate) (nanos * rate))

abbrev rest_of : ℕ → ℕ → ℕ → ℕ
rest_of turn whole before = turn * (whole % second) + before

abbrev seconds_of : ℕ → ℕ → ℕ → ℕ
seconds_of turn whole before = turn * (whole / second) + rest_of turn whole before / second

pub tick_parts : (turn whole before rate : ℕ) → seconds_of turn whole before * rate + rest_of turn whole before % second * rate / second ≡ tick_of (turn * whole + before) rate
tick_parts turn whole before rate =
    let rest = rest_of turn whole before in
    let e : turn * whole + before ≡ seconds_of turn whole before * second + rest % second
    = omega (arith, ap (λ (x : ℕ). turn * x) (div-add-mod' whole second), div-add-mod' rest second) in
    sym (rw e (tick_split (seconds_of turn whole before) (rest % second) rate))

-- ---- a tick for any numbers: in reach it is the moment's
module _ (turn whole before rate : ℕ) (t : turn ≤ turns) (w : whole ≤ largest_total) (b : before ≤ whole) (r : rate ≤ largest_rate) where
  in_reach_lem : in_reach turn whole before rate ≡ true
  unfolding in_reach
  in_reach_lem = rw (le-leb turn turns t, le-leb whole largest_total w, le-leb before whole b, le-leb rate largest_rate r)

  pub tick_in_reach : tick_at turn whole before rate ≡ tick_of (turn * whole + before) rate
  unfolding tick_at
  tick_in_reach = rw in_reach_lem

-- past a limit there is none
pub tick_past : (turn whole before rate : ℕ) → ((turn ≤ turns) × (whole ≤ largest_total) × (before ≤ whole) × (rate ≤ largest_rate) → ⊥) → tick_at turn whole before rate ≡ 0
unfolding tick_at in_reach
tick_past turn whole before rate h = go (in_reach turn whole before rate) refl
  where
    reach : in_reach turn whole before rate ≡ true → (turn ≤ turns) × (whole ≤ largest_total) × (before ≤ whole) × (rate ≤ largest_rate)
    reach e =
        let a = (and-eq-true_iff (leb turn turns) _).0 e in let b = (and-eq-true_iff (leb whole largest_total) _).0 a.1 in
        let d = (and-eq-true_iff (leb before whole) (leb rate largest_rate)).0 b.1 in
        (leb-true _ _ a.0, leb-true _ _ b.0, leb-true _ _ d.0, leb-true _ _ d.1)

    go : (b : Bool) → in_reach turn whole before rate ≡ b → cond b (tick_of (turn * whole + before) rate) 0 ≡ 0
    go true e = absurd (h (reach e))
    go false e = refl
