-- The tick of a moment that is told in parts, for any numbers: what crates above ask without a `requires`. Assumes nothing.
use Rattle.std.specs.Prelude.{Bool, ◌&&◌, cond, ℕ, ◌+◌, ◌*◌, leb}
use Rattle.clock.specs.Clock.{largest_total, largest_rate, turns, tick_of}

-- a moment that some turn has, up to the end of the last
unfoldable pub in_reach : ℕ → ℕ → ℕ → ℕ → Bool
in_reach turn whole before rate = leb turn turns && (leb whole largest_total && (leb before whole && leb rate largest_rate))

-- its tick; 0 past the clock's limits
unfoldable pub tick_at : ℕ → ℕ → ℕ → ℕ → ℕ
tick_at turn whole before rate = cond (in_reach turn whole before rate) (tick_of (turn * whole + before) rate) 0
