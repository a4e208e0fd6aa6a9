-- `total`: every length passed so far keeps its limit, and the sum so far is the rule's, or stopped just above the largest.
-- Each way out is a row of 01's table (`timed_9`, `timed_11`), or passes its front. Assumes nothing.
use native.Mathlib.Omega.{arith}
use Prim.Native.Nat.{ℕ, ◌+◌, ◌≤◌, min}
use mathlib.Core.Path.{◌≡◌, sym, ap, ◌∙◌}
use mathlib.Core.List.{List}
use Rattle.tables.specs.Refusal.{given}
use Rattle.tables.proofs.Every.{every_none}
use Rattle.clock.specs.Clock.{largest_total, sum_lengths}
use Rattle.clock.specs.Calls.{total}
use Rattle.clock.proofs.Lengths.{length_step, keeps_short, keeps_long, keeps_of, sum_step}
use Rattle.clock.proofs.Calls.{timed_9, timed_11, timed_front}
use Rattle.clock.proofs.total.Goals as goal

-- the sum of all
whole : (t : List ℕ) (clips k sum : ℕ) → clips ≤ k → k ≤ clips → sum ≡ min (sum_lengths t k) (largest_total + 1) → sum ≡ min (sum_lengths t clips) (largest_total + 1)
whole t clips k sum a b e = let i : k ≡ clips = omega arith in rw i at e

pub returns-then-not-clips_fit : goal.returns-then-not-clips_fit
unfolding total
returns-then-not-clips_fit c = sym (timed_9 _ _ _ (keeps_short _ _ (sym c.clips_fit.ensures ∙ c.if-not-clips_fit.true)))

pub loop-k-init : goal.loop-k-init
unfolding sum_lengths
loop-k-init c = (sym c.clips_fit.ensures ∙ c.if-not-clips_fit.false, every_none _, omega arith)

pub returns-then-length-ge-LENGTH_LIMIT : goal.returns-then-length-ge-LENGTH_LIMIT
unfolding total
returns-then-length-ge-LENGTH_LIMIT c =
    let l = c.loop-k in
    sym (timed_9 _ _ _ (keeps_long _ l.k _ c.loop-k-test.true (omega (arith, c.clip_word-length.ensures))))

pub loop-k-preserved : goal.loop-k-preserved
loop-k-preserved c =
    let t = c.args.words.now in let l = c.loop-k in (
      l.invariant.0,
      length_step t l.k l.invariant.1 (omega (arith, c.clip_word-length.ensures)),
      omega (arith, l.invariant.2, c.added-sum.ensures, c.clip_word-length.ensures, sum_step t l.k),
    )

pub returns-then-sum-gt-LARGEST_TOTAL : goal.returns-then-sum-gt-LARGEST_TOTAL
unfolding total
returns-then-sum-gt-LARGEST_TOTAL c =
    let l = c.loop-k in let over = c.loop-k-test.false in
    sym (timed_11 _ _ _ (keeps_of _ l.k _ over l.invariant.0 l.invariant.1) (omega (arith, whole _ _ _ _ over c.loop-k.auto.k-end l.invariant.2)))

pub returns : goal.returns
unfolding total
returns c =
    let l = c.loop-k in let over = c.loop-k-test.false in
    let e = whole _ _ _ _ over c.loop-k.auto.k-end l.invariant.2 in
    ap given (omega (arith, e)) ∙ sym ((timed_front _ _).on _ (record { keeps = keeps_of _ l.k _ over l.invariant.0 l.invariant.1; short = omega (arith, e) }))
