-- `clip_at`: `in_play` refuses as the rule does, or the pair is the rule's. Assumes nothing.
use mathlib.Core.Path.{◌≡◌, sym}
use Rattle.tables.proofs.Refusals.{given_refuses}
use Rattle.clock.specs.Clock.{sum_lengths}
use Rattle.clock.proofs.Results.{refused_result}
use Rattle.playing.specs.Playing.{clip_at}
use Rattle.playing.proofs.Calls.{Plays, play_front, play_result, in_play_of}
use Rattle.playing.proofs.InHand.{on_given}
use Rattle.playing.proofs.clip_at.Goals as goal
use Rattle.playing.proofs.clip_at.Goals.{In_ok-whole}

-- past the refusals
passed : (c : In_ok-whole) → let a = c.args in Plays a.words.now a.clips a.rate a.tick × (c.in_ok-whole.whole ≡ sum_lengths a.words.now a.clips)
passed c = play_result _ _ _ _ _ c.in_ok-whole.ensures

pub pair_at-turn-requires : goal.pair_at-turn-requires
pair_at-turn-requires c = let p = passed (goal.at.pair_at-turn-requires c).In_ok-whole in (in_play_of _ _ _ _ p.0, p.1)

pub returns-in_err-whole : goal.returns-in_err-whole
unfolding clip_at
returns-in_err-whole c = refused_result _ _ _ _ _ c.from_residual.ensures.1 ((play_front _ _ _ _).refuses _ _ (given_refuses _ _)) c.in_err-whole.ensures

pub returns : goal.returns
returns c = let p = passed (goal.at.returns c).In_ok-whole in sym (on_given _ _ _ _ _ _ _ _ _ p.0 p.1 c.pair_at-turn.ensures)
