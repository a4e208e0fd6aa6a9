-- What is on agrees with the clock, over the calls' own promises: a start tick is not after the tick exactly where its pair is not after the answer; asked at a
-- start tick, the answer starts in that tick; and the ticks since and left are the clock's. Rests on the pair by its moment. Assumes nothing.
use mathlib.Core.Path.{◌≡◌, refl, sym, ap, ◌∙◌, subst}
use mathlib.Core.List.{List}
use mathlib.Core.Logic.{inl, inr, ◌↔◌}
use Prim.Native.Nat.{ℕ, suc, ◌+◌, ◌-◌, ◌*◌, ◌/◌, ◌%◌, ◌≤◌, ◌<◌}
use native.Mathlib.Nat.{le_refl, lt_of_not-le, div-add-mod', mod-lt}
use native.Mathlib.Numerals.{add-one}
use native.Mathlib.Omega.{arith}
use Rattle.tables.specs.Refusal.{given}
use Rattle.clock.specs.Clock.{last_turn, turns, length_of, sum_lengths, moment_of, next_moment, tick_of, ticks_of}
use Rattle.clock.specs.Calls.{start_tick, clip_ticks}
use Rattle.clock.proofs.Lengths.{sum_step}
use Rattle.clock.proofs.Moments.{next_moment_lem, turn_ends, clips_rise, turns_rise}
use Rattle.clock.proofs.Calls.{InTurn, turn_at, clip_turn_front, start_tick_given, clip_ticks_given}
use Rattle.playing.specs.Playing.{Pair, pair, NotAfter, clip_at, playing, times_of, playing_at}
use Rattle.playing.specs.Inside.Moment.{last_moment, clip_within}
use Rattle.playing.proofs.Pairs.{within, turn_in, started_by, exactly}
use Rattle.playing.proofs.Calls.{Plays, play_front, in_play_of, by_moment, clip_at_given, playing_at_given}

-- ---- pairs in their order
pub not_after_itself : (turn clip : ℕ) → NotAfter (pair turn clip) (pair turn clip)
not_after_itself turn clip = inr (refl, le_refl clip)

-- two that are not after each other are one
pub only_itself : (u k v j : ℕ) → NotAfter (pair u k) (pair v j) → NotAfter (pair v j) (pair u k) → pair u k ≡ pair v j
only_itself u k v j (inl a) (inl b) = let z : u < u = omega arith in let e : u ≡ v = omega arith in let f : k ≡ j = omega arith in rw (e, f)
only_itself u k v j (inl a) (inr b) = let e : u ≡ v = omega (arith, b.0) in let f : k ≡ j = omega (arith, b.0) in rw (e, f)
only_itself u k v j (inr a) (inl b) = let e : u ≡ v = a.0 in let f : k ≡ j = omega (arith, a.0) in rw (e, f)
only_itself u k v j (inr a) (inr b) = let e : u ≡ v = a.0 in let f : k ≡ j = omega (arith, a.1, b.1) in rw (e, f)

-- the start tick that the clock answers
module _ (t : List ℕ) (n rate u k x : ℕ) (e : start_tick t n rate u k ≡ given x) where
  pub start_passed : InTurn t n rate u × (k < n)
  unfolding start_tick
  start_passed = ((clip_turn_front t n rate u k).passed _ x e).0

  pub start_is : x ≡ tick_of (moment_of t n u k) rate
  unfolding start_tick
  start_is =
      let q : given (tick_of (moment_of t n u k) rate) ≡ given x = ((clip_turn_front t n rate u k).passed _ x e).1 in
      cc

-- start ticks never fall, from pair to pair
pub starts_rise : (t : List ℕ) (n rate u k v j : ℕ) → k < n → NotAfter (pair u k) (pair v j) → tick_of (moment_of t n u k) rate ≤ tick_of (moment_of t n v j) rate
starts_rise t n rate u k v j h (inl a) = turns_rise t n rate u v k j a (omega arith)
starts_rise t n rate u k v j h (inr a) = rw a.0 (clips_rise t n rate v k j a.1)

-- ---- what an answer says of its pair
module _ (t : List ℕ) (n rate tick turn clip : ℕ) (e : clip_at t n rate tick ≡ given (pair turn clip)) where
  pub passed : Plays t n rate tick
  unfolding clip_at
  passed = ((play_front t n rate tick).passed _ (pair turn clip) e).0

  -- its whole turns, and what is left
  wholes : ℕ
  wholes = last_moment rate tick / sum_lengths t n

  rest : ℕ
  rest = last_moment rate tick % sum_lengths t n

  both : wholes * sum_lengths t n + rest ≡ last_moment rate tick
  unfolding wholes rest
  both = div-add-mod' (last_moment rate tick) (sum_lengths t n)

  less : rest < sum_lengths t n
  unfolding rest
  less = let p : 0 < sum_lengths t n = passed.plays in mod-lt (last_moment rate tick) p

  found : pair wholes (clip_within t n rest) ≡ pair turn clip
  unfolding wholes rest
  found =
      let q : given (by_moment t n rate tick) ≡ given (pair turn clip) = sym (clip_at_given t n rate tick passed) ∙ e in
      cc

  turn_found : wholes ≡ turn
  turn_found = let q = found in cc

  clip_found : clip_within t n rest ≡ clip
  clip_found = let q = found in cc

  -- it is a pair that there is
  pub pair_there : (turn ≤ last_turn) × (clip < n)
  pair_there = (
    omega (arith, turn_found, turn_in t n rate tick (in_play_of t n rate tick passed) wholes rest both less),
    omega (arith, clip_found, (within t n rest less).in_list),
  )

  -- "The answer must agree with the clock": for every turn and every clip, its start tick is not after the tick exactly where the pair is not after the answer
  pub agrees : (u k x : ℕ) → start_tick t n rate u k ≡ given x → (x ≤ tick) ↔ NotAfter (pair u k) (pair turn clip)
  agrees u k x s =
      let h = exactly t n rate tick (in_play_of t n rate tick passed) wholes rest both less u k (start_passed t n rate u k x s).1 in
      subst (λ (p : Pair). (x ≤ tick) ↔ NotAfter (pair u k) p) found (rw (start_is t n rate u k x s) h)

  -- a clip of length 0 is never the answer
  pub has_length : 0 < length_of t clip
  has_length =
      let w = within t n rest less in
      let l : 0 < length_of t (clip_within t n rest) = omega (arith, w.begun, w.not_over, sum_step t (clip_within t n rest)) in
      rw clip_found at l

  -- the clock answers of it, by its turn
  in_its_turn : InTurn t n rate turn
  in_its_turn = turn_at t n rate turn passed.at_rate pair_there.0

  pub its_start : start_tick t n rate turn clip ≡ given (tick_of (moment_of t n turn clip) rate)
  its_start = start_tick_given t n rate turn clip in_its_turn pair_there.1

  pub start_not_after : tick_of (moment_of t n turn clip) rate ≤ tick
  start_not_after = (agrees turn clip _ its_start).1 (not_after_itself turn clip)

  -- the next start is after the tick
  pub next_after : tick < tick_of (next_moment t n turn clip) rate
  unfolding moment_of
  next_after =
      let w = within t n rest less in
      let c = clip_within t n rest in
      let g = in_play_of t n rate tick passed in
      let l : tick < tick_of (wholes * sum_lengths t n + sum_lengths t (suc c)) rate
      = lt_of_not-le (λ (z : tick_of (wholes * sum_lengths t n + sum_lengths t (suc c)) rate ≤ tick).
      omega (arith, w.not_over, sum_step t c, ap (sum_lengths t) (add-one c), (started_by t n rate tick g wholes rest both less wholes (suc c)).0 z)) in
      rw (next_moment_lem t n turn clip pair_there.1) (rw (turn_found, clip_found) at l)

-- ---- the two ways round
module _ (t : List ℕ) (n rate : ℕ) where
  -- asked at a clip's own start tick, the answer is a clip that starts in this tick, and is not before it; with `agrees`, the last one that does
  pub at_its_start : (u k v j x : ℕ) → start_tick t n rate u k ≡ given x → clip_at t n rate x ≡ given (pair v j) → (start_tick t n rate v j ≡ given x) × NotAfter (pair u k) (pair v j)
  at_its_start u k v j x s e =
      let later = (agrees t n rate x v j e u k x s).0 (le_refl x) in
      let rise = starts_rise t n rate u k v j (start_passed t n rate u k x s).1 later in
      let same : tick_of (moment_of t n v j) rate ≡ x = omega (arith, rise, start_is t n rate u k x s, start_not_after t n rate x v j e) in
      (its_start t n rate x v j e ∙ ap given same, later)

  -- asked at the start tick of the answer, the answer is the same
  pub asked_again : (tick v j x : ℕ) → clip_at t n rate tick ≡ given (pair v j) → start_tick t n rate v j ≡ given x → clip_at t n rate x ≡ given (pair v j)
  asked_again tick v j x e s =
      let g = passed t n rate tick v j e in
      let early : x ≤ tick = (agrees t n rate tick v j e v j x s).1 (not_after_itself v j) in
      let h : Plays t n rate x = record { at_rate = g.at_rate; some_clips = g.some_clips; plays = g.plays; in_time = omega (arith, g.in_time) } in
      again h (by_moment t n rate x) (clip_at_given t n rate x h) early
    where
      again : Plays t n rate x → (p : Pair) → clip_at t n rate x ≡ given p → x ≤ tick → clip_at t n rate x ≡ given (pair v j)
      again h (pair w i) q early =
          let here = (agrees t n rate x w i q v j x s).0 (le_refl x) in
          let start = its_start t n rate x w i q in
          let there = (agrees t n rate tick v j e w i _ start).0 (omega (arith, start_not_after t n rate x w i q)) in
          q ∙ ap given (only_itself w i v j there here)

-- ---- since and left, by the clock's own promises
pub record Times (t : List ℕ) (n rate tick turn clip since left : ℕ) : Type 0 where
  -- it is the same pair
  pub is_on : clip_at t n rate tick ≡ given (pair turn clip)
  -- its start tick was so many ticks ago
  pub started_at : (x : ℕ) → start_tick t n rate turn clip ≡ given x → x + since ≡ tick
  -- all its ticks are those since and those left, of which there is one at least
  pub all_ticks : clip_ticks t n rate turn clip ≡ given (since + left)
  pub some_left : 0 < left
  -- the next pair starts so many ticks on: the next clip; behind the last clip the next turn's first; behind the last turn, turn 1,000,000
  pub next_clip : suc clip < n → start_tick t n rate turn (suc clip) ≡ given (tick + left)
  pub next_turn : suc clip ≡ n → turn < last_turn → start_tick t n rate (suc turn) 0 ≡ given (tick + left)
  pub no_turn : suc clip ≡ n → turn ≡ last_turn → tick_of (moment_of t n turns 0) rate ≡ tick + left

module _ (t : List ℕ) (n rate tick : ℕ) where
  times_of_lem : (turn clip : ℕ) → clip_at t n rate tick ≡ given (pair turn clip)
      → Times t n rate tick turn clip (tick - tick_of (moment_of t n turn clip) rate) (tick_of (next_moment t n turn clip) rate - tick)
  unfolding ticks_of
  times_of_lem turn clip e =
      let low = start_not_after t n rate tick turn clip e in
      let high = next_after t n rate tick turn clip e in
      let h = pair_there t n rate tick turn clip e in
      let g = in_its_turn t n rate tick turn clip e in
      let at-rate = (passed t n rate tick turn clip e).at_rate in
      let next : tick + (tick_of (next_moment t n turn clip) rate - tick) ≡ tick_of (moment_of t n turn (suc clip)) rate = omega (arith, high, ap (λ (m : ℕ). tick_of m rate) (next_moment_lem t n turn clip h.1)) in
      let over : suc clip ≡ n → tick_of (moment_of t n turn (suc clip)) rate ≡ tick_of (moment_of t n (suc turn) 0) rate
      = λ i. ap (λ (k : ℕ). tick_of (moment_of t n turn k) rate) i ∙ ap (λ (m : ℕ). tick_of m rate) (turn_ends t n turn) in
      record {
        is_on = e;
        started_at = λ x s. omega (arith, start_is t n rate turn clip x s, low);
        all_ticks = clip_ticks_given t n rate turn clip g h.1 ∙ ap given (omega (arith, low, high));
        some_left = omega (arith, high);
        next_clip = λ l. start_tick_given t n rate turn (suc clip) g l ∙ ap given (sym next);
        next_turn = λ i l. start_tick_given t n rate (suc turn) 0 (turn_at t n rate (suc turn) at-rate l) (omega (arith, h.1)) ∙ ap given (sym (next ∙ over i));
        no_turn = λ i l. let j : suc turn ≡ turns = omega (arith, l) in ap (λ (u : ℕ). tick_of (moment_of t n u 0) rate) (sym j) ∙ sym (next ∙ over i);
      }

  pub times : (turn clip since left : ℕ) → playing_at t n rate tick ≡ given (playing turn clip since left) → Times t n rate tick turn clip since left
  unfolding playing_at
  times turn clip since left e =
      let g = (play_front t n rate tick).passed _ (playing turn clip since left) e in
      go (by_moment t n rate tick) (clip_at_given t n rate tick g.0) (sym (playing_at_given t n rate tick g.0) ∙ e)
    where
      go : (p : Pair) → clip_at t n rate tick ≡ given p → given (times_of t n rate tick p) ≡ given (playing turn clip since left) → Times t n rate tick turn clip since left
      go (pair v j) q f =
          let a : v ≡ turn = cc in
          let b : j ≡ clip = cc in
          let c : tick - tick_of (moment_of t n v j) rate ≡ since = cc in
          let d : tick_of (next_moment t n v j) rate - tick ≡ left = cc in
          let r = times_of_lem v j q in
          rw (c, d, a, b) at r
