-- `start_ns`: `total` refuses as the rule does, or its front is passed and no sum was cut short (`sum_exact`). Assumes nothing.
use native.Mathlib.Omega.{arith}
use mathlib.Core.Path.{sym, ap, ◌∙◌}
use Rattle.tables.specs.Refusal.{given}
use Rattle.tables.proofs.Refusals.{given_refuses}
use Rattle.clock.specs.Calls.{total, start_ns}
use Rattle.clock.proofs.Calls.{Timed, timed_front, clip_14, start_ns_given}
use Rattle.clock.proofs.Results.{refused_result, total_result, sum_exact}
use Rattle.clock.proofs.start_ns.Goals as goal
use Rattle.clock.proofs.start_ns.Goals.{In_ok-total}

-- past the first refusals
passed : (c : In_ok-total) → Timed c.args.words.now c.args.clips
passed c = total_result _ _ _ c.in_ok-total.ensures

pub returns-in_err-total : goal.returns-in_err-total
unfolding total start_ns
returns-in_err-total c = refused_result _ _ _ _ _ c.from_residual.ensures.1 ((timed_front _ _).refuses _ _ (given_refuses _ _)) c.in_err-total.ensures

pub returns-then-clips-clip : goal.returns-then-clips-clip
unfolding start_ns
returns-then-clips-clip c = sym ((timed_front _ _).on _ (passed (goal.at.returns-then-clips-clip c).In_ok-total) ∙ clip_14 _ _ _ (omega arith))

pub returns : goal.returns
returns c =
    let g = passed (goal.at.returns c).In_ok-total in
    ap given (sum_exact _ _ _ _ g (omega arith) c.sum_upto.ensures) ∙ sym (start_ns_given _ _ _ g (omega arith))
