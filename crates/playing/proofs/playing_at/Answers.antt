-- `playing_at`: `in_play` refuses as the rule does, or pair and ticks are the rule's (`in_hand`). Assumes nothing.
use native.Mathlib.Omega.{arith}
use mathlib.Core.Path.{◌≡◌, sym}
use Prim.Native.Nat.{◌-◌, ◌≤◌}
use Rattle.tables.specs.Refusal.{given}
use Rattle.tables.proofs.Refusals.{given_refuses}
use Rattle.clock.specs.Clock.{sum_lengths}
use Rattle.clock.proofs.Results.{refused_result}
use Rattle.playing.specs.Playing.{playing, playing_at}
use Rattle.playing.proofs.Calls.{Plays, play_front, play_result, in_play_of}
use Rattle.playing.proofs.InHand.{ends_within, whole_short, in_hand}
use Rattle.playing.proofs.playing_at.Goals as goal
use Rattle.playing.proofs.playing_at.Goals.{After-tick_at-next, In_ok-whole}

-- past the refusals
passed : (c : In_ok-whole) → let a = c.args in Plays a.words.now a.clips a.rate a.tick × (c.in_ok-whole.whole ≡ sum_lengths a.words.now a.clips)
passed c = play_result _ _ _ _ _ c.in_ok-whole.ensures

pub pair_at-turn-requires : goal.pair_at-turn-requires
pair_at-turn-requires c = let p = passed (goal.at.pair_at-turn-requires c).In_ok-whole in (in_play_of _ _ _ _ p.0, p.1)

pub overflow_add-found : goal.overflow_add-found
overflow_add-found c = let p = passed (goal.at.overflow_add-found c).In_ok-whole in omega (arith, ends_within _ _ _ _ _ _ _ _ _ p.0 p.1 c.pair_at-turn.ensures, whole_short _ _ _ _ _ _ _ _ _ p.0 p.1 c.pair_at-turn.ensures)

-- the two ticks in hand: since and left, and what the rule gives of them
hand : (c : After-tick_at-next) → let a = c.args in let start = c.tick_at-start.result in let next = c.tick_at-next.result in let s = c.pair_at-turn.result in
    (start ≤ a.tick) × (a.tick ≤ next) × (playing_at a.words.now a.clips a.rate a.tick ≡ given (playing s.0 s.1.clip (a.tick - start) (next - a.tick)))
hand c = let p = play_result _ _ _ _ _ c.in_ok-whole.ensures in in_hand _ _ _ _ _ _ _ _ _ p.0 p.1 c.pair_at-turn.ensures _ _ c.tick_at-start.ensures c.tick_at-next.ensures

pub overflow_sub-result : goal.overflow_sub-result
overflow_sub-result c = (hand (goal.at.overflow_sub-result c).After-tick_at-next).0

pub overflow_sub-result-2 : goal.overflow_sub-result-2
overflow_sub-result-2 c = (hand (goal.at.overflow_sub-result-2 c).After-tick_at-next).1

pub returns-in_err-whole : goal.returns-in_err-whole
unfolding playing_at
returns-in_err-whole c = refused_result _ _ _ _ _ c.from_residual.ensures.1 ((play_front _ _ _ _).refuses _ _ (given_refuses _ _)) c.in_err-whole.ensures

pub returns : goal.returns
returns c = sym (hand (goal.at.returns c).After-tick_at-next).2
