-- `start_tick`: `clip_in_turn` refuses as the rule does, or gives the whole, with which the tick is the rule's (`tick_result`). Assumes nothing.
use native.Mathlib.Omega.{arith}
use mathlib.Core.Path.{sym, ap, ◌∙◌}
use Rattle.tables.specs.Refusal.{given}
use Rattle.tables.proofs.Refusals.{given_refuses}
use Rattle.clock.specs.Calls.{start_tick}
use Rattle.clock.proofs.Calls.{clip_turn_front, start_tick_given}
use Rattle.clock.proofs.Results.{refused_result, clip_result, within_whole, tick_result}
use Rattle.clock.proofs.turns.start_tick.Goals as goal

pub returns-in_err-whole : goal.returns-in_err-whole
unfolding start_tick
returns-in_err-whole c = refused_result _ _ _ _ _ c.from_residual.ensures.1 ((clip_turn_front _ _ _ _ _).refuses _ _ (given_refuses _ _)) c.in_err-whole.ensures

pub tick_reached-requires : goal.tick_reached-requires
tick_reached-requires c = let w = clip_result _ _ _ _ _ _ c.in_ok-whole.ensures in omega (arith, w, within_whole _ _ _ _ _ w.0 c.args.clip (omega arith))

pub returns : goal.returns
returns c =
    let w = clip_result _ _ _ _ _ _ c.in_ok-whole.ensures in
    ap given (tick_result _ _ _ _ _ w.0 _ _ c.tick_reached.ensures) ∙ sym (start_tick_given _ _ _ _ _ w.0.on w.1)
