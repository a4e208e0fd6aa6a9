-- `clip_in_turn`: `in_turn` refuses as the rule does, or its front is passed and the clip decides. Assumes nothing.
use native.Mathlib.Omega.{arith}
use mathlib.Core.Path.{sym, ◌∙◌}
use Rattle.tables.proofs.Refusals.{given_refuses}
use Rattle.clock.proofs.Calls.{turn_front, clip_front, clip_14}
use Rattle.clock.proofs.Results.{refused_result, turn_result}
use Rattle.clock.proofs.turns.clip_in_turn.Goals as goal

pub returns-in_err-whole : goal.returns-in_err-whole
returns-in_err-whole c = refused_result _ _ _ _ _ c.from_residual.ensures.1 ((turn_front _ _ _ _).refuses _ _ (given_refuses _ _)) c.in_err-whole.ensures

pub returns-then-clips-clip : goal.returns-then-clips-clip
returns-then-clips-clip c = sym ((turn_front _ _ _ _).on _ (turn_result _ _ _ _ _ c.in_ok-whole.ensures).on ∙ clip_14 _ _ _ (omega arith))

pub returns : goal.returns
returns c = rw ((clip_front c.args.clips c.args.clip).on _ (omega arith)) c.in_ok-whole.ensures
