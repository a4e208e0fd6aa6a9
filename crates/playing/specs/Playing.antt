-- Which clip is on at a tick (02, [2]), over the clock's moments and ticks. Whole numbers only. Assumes nothing.
use Rattle.std.specs.Prelude.{Bool, ◌&&◌, cond, List, ◌⊎◌, ◌≡◌, ℕ, zero, suc, ◌-◌, ◌≤◌, ◌<◌, leb, ltb}
use Rattle.tables.specs.Refusal.{Answer, given, or_refuse, nothing_plays, tick_too_late}
use Rattle.clock.specs.Clock.{turns, sum_lengths, moment_of, next_moment, tick_of}
use Rattle.clock.specs.Calls.{at_rate}

-- a turn, and a clip of it
pub data Pair : Type 0 where
  pair : ℕ → ℕ → Pair

-- "by turn then clip": the first of two pairs is not after the second
abbrev pub NotAfter : Pair → Pair → Type 0
NotAfter (pair u k) (pair turn clip) = (u < turn) ⊎ ((u ≡ turn) × (k ≤ clip))

-- the last number below n that passes; 0 where none does
unfoldable pub last_below : (ℕ → Bool) → ℕ → ℕ
last_below p zero = 0
last_below p (suc n) = cond (p n) n (last_below p n)

-- "whose start tick is not after t"
unfoldable pub started : List ℕ → ℕ → ℕ → ℕ → ℕ → ℕ → Bool
started t n rate tick turn clip = leb (tick_of (moment_of t n turn clip) rate) tick

-- "the last pair, by turn then clip, up to turn 999,999, whose start tick is not after t": its turn is the last that has begun, and that is told by its first clip
unfoldable pub turn_on : List ℕ → ℕ → ℕ → ℕ → ℕ
turn_on t n rate tick = last_below (λ turn. started t n rate tick turn 0) turns

-- and in this turn the last clip
unfoldable pub pair_on : List ℕ → ℕ → ℕ → ℕ → Pair
pair_on t n rate tick = pair (turn_on t n rate tick) (last_below (started t n rate tick (turn_on t n rate tick)) n)

-- "Refusals: the clock's 9, 11, 12; then 17, no clips or total 0; then 18, t at or past the start tick of turn 1,000,000."
unfoldable pub in_play : {A : Type 0} → List ℕ → ℕ → ℕ → ℕ → Answer A → Answer A
in_play t n rate tick rest =
    at_rate t n rate
    (or_refuse (ltb 0 n && ltb 0 (sum_lengths t n)) nothing_plays 0
    (or_refuse (ltb tick (tick_of (moment_of t n turns 0) rate)) tick_too_late 0
    rest))

-- "Given rate and tick, answer turn and clip"
unfoldable pub clip_at : List ℕ → ℕ → ℕ → ℕ → Answer Pair
clip_at t n rate tick = in_play t n rate tick (given (pair_on t n rate tick))

-- a turn and a clip, how many ticks ago it started, how many are left until the next start
pub data Playing : Type 0 where
  playing : ℕ → ℕ → ℕ → ℕ → Playing

-- the tick minus the clip's start tick, the next pair's start tick minus the tick; after a turn's last clip the next pair is the next turn's first
abbrev pub times_of : List ℕ → ℕ → ℕ → ℕ → Pair → Playing
times_of t n rate tick (pair turn clip) = playing turn clip (tick - tick_of (moment_of t n turn clip) rate) (tick_of (next_moment t n turn clip) rate - tick)

-- a second answer of the same pass, with the same refusals
unfoldable pub playing_at : List ℕ → ℕ → ℕ → ℕ → Answer Playing
playing_at t n rate tick = in_play t n rate tick (given (times_of t n rate tick (pair_on t n rate tick)))
