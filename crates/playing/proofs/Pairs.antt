-- The pair that the last moment of a tick falls in is the rule's: the whole turns in that moment, and the last clip that has started in what is left.
-- Rests on the laws of the last number, of the last moment and of sums. Assumes nothing.
use mathlib.Core.Path.{◌≡◌, refl, sym, ap, ◌∙◌}
use mathlib.Core.Bool.{Bool}
use mathlib.Core.List.{List}
use mathlib.Core.Logic.{inl, inr, ⊎_elim, ◌↔◌}
use Prim.Native.Nat.{ℕ, suc, ◌+◌, ◌*◌, ◌≤◌, ◌<◌}
use native.Mathlib.Nat.{lt_of_mul-lt-mul_right, mul-le-mul_right, le_of_suc-le-suc, eq-or-lt_of_le, lt_of_not-le}
use native.Mathlib.Omega.{arith}
use lib.Dec.{leb}
use borrow.Author.Tests.{le-leb, lt-leb, leb-true, leb-false}
use Rattle.clock.specs.Clock.{turns, sum_lengths, moment_of, tick_of}
use Rattle.clock.proofs.Lengths.{sum_mono}
use Rattle.playing.specs.Playing.{pair, NotAfter, last_below, started, turn_on, pair_on}
use Rattle.playing.specs.Inside.Moment.{last_moment, clip_within, InPlay, FoundAt, SpotAt}
use Rattle.playing.proofs.Last.{last_is, last_passes, none_later}
use Rattle.playing.proofs.Moment.{within_tick, past_tick}

-- ---- the clip within a turn
module _ (t : List ℕ) (n rest : ℕ) where
  -- the clip that has started, and is not over
  pub within_is : (clip : ℕ) → clip < n → sum_lengths t clip ≤ rest → rest < sum_lengths t (clip + 1) → clip_within t n rest ≡ clip
  unfolding clip_within
  within_is clip h b l =
      last_is (λ k. leb (sum_lengths t k) rest) clip n h (le-leb (sum_lengths t clip) rest b)
      (λ j a c. lt-leb (sum_lengths t j) rest (omega (arith, sum_mono t (clip + 1) j (omega arith))))

  pub record Within (clip : ℕ) : Type 0 where
    pub in_list : clip < n
    pub begun : sum_lengths t clip ≤ rest
    pub not_over : rest < sum_lengths t (clip + 1)

  pub within : rest < sum_lengths t n → Within (clip_within t n rest)
  unfolding clip_within sum_lengths
  within l =
      let p : ℕ → Bool = λ k. leb (sum_lengths t k) rest in
      let some_clip : 0 < n = lt_of_not-le (λ (z : n ≤ 0). omega (arith, sum_mono t n 0 z)) in
      let r = last_passes p 0 n some_clip (le-leb (sum_lengths t 0) rest (omega arith)) in
      let k = last_below p n in
      let next : k + 1 ≤ n = omega (arith, r.0) in
      record {
        in_list = r.0;
        begun = leb-true (sum_lengths t k) rest r.1;
        not_over = lt_of_not-le (λ (z : sum_lengths t (k + 1) ≤ rest).
            ⊎_elim
            (λ (e : k + 1 ≡ n). omega (arith, ap (sum_lengths t) e))
            (λ (h : k + 1 < n). omega (arith, leb-false (sum_lengths t (k + 1)) rest (none_later p (k + 1) n (omega arith) h)))
            (eq-or-lt_of_le next));
      }

-- ---- a moment in parts: whole turns, and what is left
module _ (t : List ℕ) (n rate tick : ℕ) (g : InPlay t n rate tick) (turn rest : ℕ) (m : turn * sum_lengths t n + rest ≡ last_moment rate tick) (l : rest < sum_lengths t n) where
  abbrev here : ℕ
  here = clip_within t n rest

  -- it lies in a turn that there is
  pub turn_in : turn < turns
  unfolding moment_of sum_lengths
  turn_in =
      let h : last_moment rate tick < turns * sum_lengths t n + 0 = past_tick rate tick g.rate_low (turns * sum_lengths t n + 0) g.in_time in
      lt_of_mul-lt-mul_right (sum_lengths t n) (omega arith)

  -- a pair has started exactly where its moment is not after this one
  pub started_by : (u k : ℕ) → (tick_of (moment_of t n u k) rate ≤ tick) ↔ (u * sum_lengths t n + sum_lengths t k ≤ turn * sum_lengths t n + rest)
  unfolding moment_of
  started_by u k = rw m (within_tick rate tick g.rate_low (u * sum_lengths t n + sum_lengths t k))

  -- which is exactly where it is not after the pair that the moment falls in
  pub exactly : (u k : ℕ) → k < n → (tick_of (moment_of t n u k) rate ≤ tick) ↔ NotAfter (pair u k) (pair turn here)
  exactly u k h = (to, from)
    where
      w : Within t n rest here
      w = within t n rest l

      to : tick_of (moment_of t n u k) rate ≤ tick → NotAfter (pair u k) (pair turn here)
      to s =
          let b = (started_by u k).0 s in
          let not_later : u ≤ turn = le_of_suc-le-suc (lt_of_mul-lt-mul_right (sum_lengths t n) {n = suc turn} (omega arith)) in
          ⊎_elim
          (λ (e : u ≡ turn).
          let f : u * sum_lengths t n ≡ turn * sum_lengths t n = ap (λ (x : ℕ). x * sum_lengths t n) e in
          inr (e, le_of_suc-le-suc (lt_of_not-le (λ (z : suc here ≤ k). omega (arith, w.not_over, sum_mono t (here + 1) k (omega arith))))))
          inl
          (eq-or-lt_of_le not_later)

      from : NotAfter (pair u k) (pair turn here) → tick_of (moment_of t n u k) rate ≤ tick
      from (inl e) = (started_by u k).1 (omega (arith, sum_mono t k n (omega arith), mul-le-mul_right (sum_lengths t n) e))
      from (inr e) =
          let f : u * sum_lengths t n ≡ turn * sum_lengths t n = ap (λ (x : ℕ). x * sum_lengths t n) e.0 in
          (started_by u k).1 (omega (arith, w.begun, sum_mono t k here e.1))

  -- so that turn and clip are the rule's
  turn_is : turn_on t n rate tick ≡ turn
  unfolding turn_on started sum_lengths
  turn_is =
      let some_clip : 0 < n = omega (arith, (within t n rest l).in_list) in
      last_is (λ u. started t n rate tick u 0) turn turns turn_in (le-leb (tick_of (moment_of t n turn 0) rate) tick ((exactly turn 0 some_clip).1 (inr (refl, omega arith))))
      (λ u a b. lt-leb (tick_of (moment_of t n u 0) rate) tick (lt_of_not-le (λ (s : tick_of (moment_of t n u 0) rate ≤ tick).
      ⊎_elim (λ (z : u < turn). omega arith) (λ (z : (u ≡ turn) × (0 ≤ here)). omega (arith, z.0)) ((exactly u 0 some_clip).0 s))))

  clip_is : last_below (started t n rate tick turn) n ≡ here
  unfolding started
  clip_is =
      let w = within t n rest l in
      last_is (started t n rate tick turn) here n w.in_list (le-leb (tick_of (moment_of t n turn here) rate) tick ((exactly turn here w.in_list).1 (inr (refl, omega arith))))
      (λ k a b. lt-leb (tick_of (moment_of t n turn k) rate) tick (lt_of_not-le (λ (s : tick_of (moment_of t n turn k) rate ≤ tick).
      ⊎_elim (λ (z : turn < turn). omega arith) (λ (z : (turn ≡ turn) × (k ≤ here)). omega (arith, z.1)) ((exactly turn k b).0 s))))

  pub pair_is : pair_on t n rate tick ≡ pair turn here
  unfolding pair_on
  pair_is = rw (turn_is, clip_is)

-- ---- with the whole in hand
module _ (t : List ℕ) (n rate tick whole : ℕ) (g : InPlay t n rate tick) (w : whole ≡ sum_lengths t n) where
  pub end_of : tick < tick_of (turns * whole) rate
  unfolding moment_of sum_lengths
  end_of =
      let e : turns * sum_lengths t n + 0 ≡ turns * whole = omega (arith, w) in
      rw e at g.in_time

  pub spot_is : (turn rest clip before length : ℕ) → turn * whole + rest ≡ last_moment rate tick → rest < whole → FoundAt t n rest clip before length → SpotAt t n rate tick turn clip before length
  spot_is turn rest clip before length m l f =
      let m' : turn * sum_lengths t n + rest ≡ last_moment rate tick = rw w at m in
      let l' : rest < sum_lengths t n = omega (arith, w) in
      record {
        is_on = ap (pair turn) f.found ∙ sym (pair_is t n rate tick g turn rest m' l');
        in_turn = turn_in t n rate tick g turn rest m' l';
        in_list = f.in_list;
        before_it = f.before_it;
        its_own = f.its_own;
      }
