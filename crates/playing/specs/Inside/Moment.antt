-- The last ns whose tick is not after a given one, and the clip that it falls in: how the code finds a pair without looking at each. Assumes nothing.
use Rattle.std.specs.Prelude.{◌≡◌, List, ℕ, ◌+◌, ◌-◌, ◌*◌, ◌/◌, ◌≤◌, ◌<◌, leb}
use Rattle.tables.specs.Layout.{second}
use Rattle.clock.specs.Clock.{largest_total, largest_rate, turns, length_of, sum_lengths, moment_of, tick_of}
use Rattle.playing.specs.Playing.{pair, last_below, pair_on}

-- m = ((t + 1) x 10^9 - 1) div rate
unfoldable pub last_moment : ℕ → ℕ → ℕ
last_moment rate tick = ((tick + 1) * second - 1) / rate

-- the last clip that has started so many ns into a turn
unfoldable pub clip_within : List ℕ → ℕ → ℕ → ℕ
clip_within t n rest = last_below (λ k. leb (sum_lengths t k) rest) n

-- what has passed the refusals, as far as what follows needs it
pub record InPlay (t : List ℕ) (n rate tick : ℕ) : Type 0 where
  pub short : sum_lengths t n ≤ largest_total
  pub rate_low : 1 ≤ rate
  pub rate_high : rate ≤ largest_rate
  pub plays : 0 < sum_lengths t n
  pub in_time : tick < tick_of (moment_of t n turns 0) rate

-- a clip that was found in a turn, with the lengths before it and its own
pub record FoundAt (t : List ℕ) (n rest clip before length : ℕ) : Type 0 where
  pub found : clip ≡ clip_within t n rest
  pub in_list : clip < n
  pub before_it : before ≡ sum_lengths t clip
  pub its_own : length ≡ length_of t clip

-- and the pair
pub record SpotAt (t : List ℕ) (n rate tick turn clip before length : ℕ) : Type 0 where
  pub is_on : pair turn clip ≡ pair_on t n rate tick
  pub in_turn : turn < turns
  pub in_list : clip < n
  pub before_it : before ≡ sum_lengths t clip
  pub its_own : length ≡ length_of t clip
