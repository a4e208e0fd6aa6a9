-- `in_turn`: `at_rate` refuses as the rule does, or its front is passed and the turn decides. Assumes nothing.
use native.Mathlib.Omega.{arith}
use mathlib.Core.Path.{sym, ◌∙◌}
use Rattle.tables.proofs.Refusals.{given_refuses}
use Rattle.clock.specs.Calls.{in_turn}
use Rattle.clock.proofs.Calls.{rate_front, turn_13, turn_at, turn_front}
use Rattle.clock.proofs.Results.{Rated, refused_result, rate_result}
use Rattle.clock.proofs.in_turn.Goals as goal
use Rattle.clock.proofs.in_turn.Goals.{In_ok-whole}

-- past the first refusals
passed : (c : In_ok-whole) → let a = c.args in Rated a.words.now a.clips a.rate c.in_ok-whole.whole
passed c = rate_result _ _ _ _ c.in_ok-whole.ensures

pub returns-in_err-whole : goal.returns-in_err-whole
unfolding in_turn
returns-in_err-whole c = refused_result _ _ _ _ _ c.from_residual.ensures.1 ((rate_front _ _ _).refuses _ _ (given_refuses _ _)) c.in_err-whole.ensures

pub returns-then-turn-gt-LAST_TURN : goal.returns-then-turn-gt-LAST_TURN
returns-then-turn-gt-LAST_TURN c = sym (turn_13 _ _ _ _ _ (passed (goal.at.returns-then-turn-gt-LAST_TURN c).In_ok-whole).on (omega arith))

pub returns : goal.returns
returns c =
    let g = (passed (goal.at.returns c).In_ok-whole).on in
    c.in_ok-whole.ensures ∙ ((rate_front _ _ _).on _ g ∙ sym ((turn_front _ _ _ _).on _ (turn_at _ _ _ _ g (omega arith))))
