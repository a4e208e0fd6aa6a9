-- The last moment of a tick: a start tick is not after the tick exactly where its moment is not after this one. And its parts in 64 bits.
-- Assumes nothing.
use mathlib.Core.Path.{◌≡◌, sym, ap}
use mathlib.Core.Logic.{◌↔◌}
use Prim.Native.Nat.{ℕ, ◌+◌, ◌-◌, ◌*◌, ◌/◌, ◌%◌, ◌≤◌, ◌<◌}
use native.Mathlib.Nat.{le-div_iff_mul-le, div-lt_iff_lt-mul, mul-add-div_right, div-add-mod', mod-lt}
use native.Mathlib.Omega.{arith}
use Rattle.tables.specs.Layout.{second}
use Rattle.clock.specs.Clock.{turns, tick_of}
use Rattle.playing.specs.Inside.Moment.{last_moment}

-- the ns left over behind its whole seconds
abbrev nanos_of : ℕ → ℕ → ℕ
nanos_of rate tick = (tick % rate * second + (second - 1)) / rate

module _ (rate tick : ℕ) (r : 1 ≤ rate) where
  -- the key
  pub within_tick : (m : ℕ) → (tick_of m rate ≤ tick) ↔ (m ≤ last_moment rate tick)
  unfolding tick_of last_moment
  within_tick m = (λ h. (le-div_iff_mul-le r).1 (omega arith), λ h. let p : m * rate ≤ (tick + 1) * second - 1 = (le-div_iff_mul-le r).0 h in omega arith)

  -- a moment whose tick is after it is later
  pub past_tick : (m : ℕ) → tick < tick_of m rate → last_moment rate tick < m
  unfolding tick_of last_moment
  past_tick m h = (div-lt_iff_lt-mul r).1 (omega arith)

  -- ---- in seconds and the ns left over
  moment_parts : tick / rate * second + nanos_of rate tick ≡ last_moment rate tick
  unfolding last_moment
  moment_parts =
      let q = tick / rate in
      let e : (tick + 1) * second - 1 ≡ q * second * rate + (tick % rate * second + (second - 1)) = omega (arith, ap (λ (x : ℕ). x * second) (div-add-mod' tick rate)) in
      sym (rw e (mul-add-div_right r (q * second) (tick % rate * second + (second - 1))))

  nanos_below : nanos_of rate tick < second
  nanos_below =
      let m : tick % rate < rate = mod-lt tick r in
      (div-lt_iff_lt-mul r).1 (omega arith)

  -- and divided by the whole: what the long division starts from, and where it ends
  pub record Parts (whole : ℕ) : Type 0 where
    pub some : 0 < whole
    pub seconds : tick / rate / whole * whole + tick / rate % whole ≡ tick / rate
    pub less : tick / rate % whole < whole
    pub nanos : nanos_of rate tick < second
    pub all : tick / rate * second + nanos_of rate tick ≡ last_moment rate tick
    pub below : last_moment rate tick < turns * whole

  pub parts : (whole : ℕ) → tick < tick_of (turns * whole) rate → Parts whole
  parts whole h =
      let b : last_moment rate tick < turns * whole = past_tick (turns * whole) h in
      let z : 0 < whole = omega arith in
      record { some = z; seconds = div-add-mod' (tick / rate) whole; less = mod-lt (tick / rate) z; nanos = nanos_below; all = moment_parts; below = b }
