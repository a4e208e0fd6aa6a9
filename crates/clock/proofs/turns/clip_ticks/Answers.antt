-- `clip_ticks`: `clip_in_turn` refuses as the rule does, or gives the whole, with which the ticks are the rule's (`ticks_result`). Assumes nothing.
use native.Mathlib.Omega.{arith}
use Prim.Native.Nat.{◌+◌, ◌-◌, ◌≤◌}
use mathlib.Core.Path.{◌≡◌, sym, ap, ◌∙◌}
use Rattle.tables.specs.Refusal.{given}
use Rattle.tables.proofs.Refusals.{given_refuses}
use Rattle.clock.specs.Clock.{ticks_of}
use Rattle.clock.specs.Calls.{clip_ticks}
use Rattle.clock.proofs.Calls.{clip_turn_front, clip_ticks_given}
use Rattle.clock.proofs.Results.{refused_result, clip_result, within_whole, ticks_result}
use Rattle.clock.proofs.turns.clip_ticks.Goals as goal
use Rattle.clock.proofs.turns.clip_ticks.Goals.{After-tick_reached-next}

ticks : (c : After-tick_reached-next) → let a = c.args in
    let start = c.tick_reached-start.result in let next = c.tick_reached-next.result in
    (start ≤ next) × (next - start ≡ ticks_of a.words.now a.clips a.rate a.turn a.clip)
ticks c = let w = clip_result _ _ _ _ _ _ c.in_ok-whole.ensures in ticks_result _ _ _ _ _ w.0 _ _ _ w.1 c.tick_reached-start.ensures c.tick_reached-next.ensures

pub returns-in_err-whole : goal.returns-in_err-whole
unfolding clip_ticks
returns-in_err-whole c = refused_result _ _ _ _ _ c.from_residual.ensures.1 ((clip_turn_front _ _ _ _ _).refuses _ _ (given_refuses _ _)) c.in_err-whole.ensures

pub tick_reached-start-requires : goal.tick_reached-start-requires
tick_reached-start-requires c = let w = clip_result _ _ _ _ _ _ c.in_ok-whole.ensures in omega (arith, w, within_whole _ _ _ _ _ w.0 c.args.clip (omega arith))

pub overflow_add-clip : goal.overflow_add-clip
overflow_add-clip c = omega (arith, clip_result _ _ _ _ _ _ c.in_ok-whole.ensures)

pub tick_reached-next-requires : goal.tick_reached-next-requires
tick_reached-next-requires c =
    let w = clip_result _ _ _ _ _ _ c.in_ok-whole.ensures in
    omega (arith, w, within_whole _ _ _ _ _ w.0 (c.args.clip + 1) (omega arith))

pub overflow_sub-result : goal.overflow_sub-result
overflow_sub-result c = (ticks (goal.at.overflow_sub-result c).After-tick_reached-next).0

pub returns : goal.returns
returns c = let w = clip_result _ _ _ _ _ _ c.in_ok-whole.ensures in ap given (ticks (goal.at.returns c).After-tick_reached-next).1 ∙ sym (clip_ticks_given _ _ _ _ _ w.0.on w.1)
