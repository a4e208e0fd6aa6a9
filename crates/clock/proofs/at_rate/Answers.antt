-- `at_rate`: `total` refuses as the rule does, or its front is passed and the rate decides. Assumes nothing.
use native.Mathlib.Omega.{arith}
use mathlib.Core.Path.{sym, ◌∙◌}
use Rattle.tables.proofs.Refusals.{given_refuses}
use Rattle.clock.specs.Calls.{total, at_rate}
use Rattle.clock.proofs.Calls.{Timed, AtRate, timed_front, rate_12, rate_front}
use Rattle.clock.proofs.Results.{refused_result, total_result}
use Rattle.clock.proofs.at_rate.Goals as goal
use Rattle.clock.proofs.at_rate.Goals.{In_ok-whole}

-- past the first refusals
passed : (c : In_ok-whole) → Timed c.args.words.now c.args.clips
passed c = total_result _ _ _ c.in_ok-whole.ensures

pub returns-in_err-whole : goal.returns-in_err-whole
unfolding total at_rate
returns-in_err-whole c = refused_result _ _ _ _ _ c.from_residual.ensures.1 ((timed_front _ _).refuses _ _ (given_refuses _ _)) c.in_err-whole.ensures

pub returns-then-rate-lt-SMALLEST_RATE : goal.returns-then-rate-lt-SMALLEST_RATE
returns-then-rate-lt-SMALLEST_RATE c = sym (rate_12 _ _ _ _ (passed (goal.at.returns-then-rate-lt-SMALLEST_RATE c).In_ok-whole) (grind (arith, c.then-rate-lt-SMALLEST_RATE.either)))

pub returns : goal.returns
unfolding total
returns c =
    let a = c.args in
    let g = passed (goal.at.returns c).In_ok-whole in
    let h : AtRate a.words.now a.clips a.rate = record { table = g; rate_low = omega arith; rate_high = omega arith } in
    c.in_ok-whole.ensures ∙ ((timed_front _ _).on _ g ∙ sym ((rate_front _ _ _).on _ h))
