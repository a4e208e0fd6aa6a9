-- From the code's results to the rules: what a front's result tells, and the numbers in hand as the rule's. Rests on the laws of fronts.
-- Assumes nothing.
use mathlib.Core.Path.{◌≡◌, sym, ◌∙◌}
use mathlib.Core.List.{List}
use Prim.Native.Nat.{ℕ, suc, ◌+◌, ◌-◌, ◌*◌, ◌≤◌, ◌<◌, min}
use native.Mathlib.Numerals.{add-one}
use native.Mathlib.Omega.{arith}
use Rattle.std.specs.Prelude.{Result}
use Rattle.std.specs.Result.{IsErrAnd}
use Rattle.std.proofs.lemmas.Result.{err_from_is_err_and}
use Rattle.tables.specs.declared.Refusal as refusalᵈ
use Rattle.tables.specs.Answers.{refusal_of, answer}
use Rattle.tables.specs.Refusal.{Answer, refused, given}
use Rattle.tables.proofs.Refusals.{RefusesAs}
use Rattle.clock.specs.Clock.{largest_total, sum_lengths, moment_of, tick_of, ticks_of}
use Rattle.clock.specs.Calls.{at_rate, in_turn, of_clip, total}
use Rattle.clock.proofs.Lengths.{sum_mono}
use Rattle.clock.proofs.Moments.{next_moment_lem, clips_rise}
use Rattle.clock.proofs.Calls.{Timed, timed_front, AtRate, rate_front, InTurn, turn_front, clip_turn_front}

-- a refusal that `?` hands on meets every rule that refuses as the one does that it came from
pub refused_result : {A B C : Type 0} (f : A → B) (x : Answer C) (y : Answer B) (r : Result A refusalᵈ.Refusal) (e : refusalᵈ.Refusal)
    → IsErrAnd r (λ d. d ≡ e) → RefusesAs x y → refused (refusal_of e) 0 ≡ x → answer f r ≡ y
refused_result f x y r e h g q = let p = err_from_is_err_and r h in rw (p.1, p.2) (sym (g (refusal_of e) 0 (sym q)))

-- ---- what a front gives is the total
pub total_result : (t : List ℕ) (n v : ℕ) → given v ≡ total t n → Timed t n
unfolding total
total_result t n v e = ((timed_front t n).passed _ v (sym e)).0

pub record Rated (t : List ℕ) (n rate whole : ℕ) : Type 0 where
  pub on : AtRate t n rate
  pub sum : whole ≡ sum_lengths t n

pub rate_result : (t : List ℕ) (n rate v : ℕ) → given v ≡ at_rate t n rate (given (sum_lengths t n)) → Rated t n rate v
rate_result t n rate v e =
    let g = (rate_front t n rate).passed _ v (sym e) in
    let q : given (sum_lengths t n) ≡ given v = g.1 in
    record { on = g.0; sum = cc }

pub record Whole (t : List ℕ) (n rate turn whole : ℕ) : Type 0 where
  pub on : InTurn t n rate turn
  pub sum : whole ≡ sum_lengths t n

module _ (t : List ℕ) (n rate turn v : ℕ) where
  pub turn_result : given v ≡ in_turn t n rate turn (given (sum_lengths t n)) → Whole t n rate turn v
  turn_result e =
      let g = (turn_front t n rate turn).passed _ v (sym e) in
      let q : given (sum_lengths t n) ≡ given v = g.1 in
      record { on = g.0; sum = cc }

  pub clip_result : (clip : ℕ) → given v ≡ in_turn t n rate turn (of_clip n clip (given (sum_lengths t n))) → Whole t n rate turn v × (clip < n)
  clip_result clip e =
      let g = (clip_turn_front t n rate turn clip).passed _ v (sym e) in
      let q : given (sum_lengths t n) ≡ given v = g.1 in
      (record { on = g.0.0; sum = cc }, g.0.1)

-- ---- of a table that passed, no sum was cut short
pub sum_exact : (t : List ℕ) (n k s : ℕ) → Timed t n → k ≤ n → s ≡ min (sum_lengths t k) (largest_total + 1) → s ≡ sum_lengths t k
sum_exact t n k s g h e = omega (arith, sum_mono t k n h)

-- ---- the tick in hand is that of the rule's moment
module _ (t : List ℕ) (n rate turn whole : ℕ) (w : Whole t n rate turn whole) where
  pub within_whole : (k : ℕ) → k ≤ n → sum_lengths t k ≤ whole
  within_whole k h = omega (arith, w.sum, sum_mono t k n h)

  pub tick_result : (k r : ℕ) → r ≡ tick_of (turn * whole + sum_lengths t k) rate → r ≡ tick_of (moment_of t n turn k) rate
  unfolding moment_of
  tick_result k r q = q ∙ rw w.sum

  -- and so are a clip's ticks
  pub ticks_result : (k start next : ℕ) → k < n → start ≡ tick_of (turn * whole + sum_lengths t k) rate → next ≡ tick_of (turn * whole + sum_lengths t (k + 1)) rate
      → (start ≤ next) × (next - start ≡ ticks_of t n rate turn k)
  unfolding ticks_of
  ticks_result k start next h p q =
      let s : start ≡ tick_of (moment_of t n turn k) rate = tick_result k start p in
      let m : next ≡ tick_of (moment_of t n turn (suc k)) rate = tick_result (suc k) next (q ∙ rw add-one) in
      (omega (arith, clips_rise t n rate turn k (suc k) (omega arith)), rw (next_moment_lem t n turn k h, s, m))
