-- `in_play`: `at_rate` refuses as the rule does, or its front is passed and total and tick decide. Assumes nothing.
use native.Mathlib.Omega.{arith}
use Prim.Native.Nat.{◌<◌}
use mathlib.Core.Path.{sym, ap, ◌∙◌}
use Rattle.tables.specs.Refusal.{given}
use Rattle.tables.proofs.Refusals.{given_refuses}
use Rattle.clock.specs.Clock.{sum_lengths}
use Rattle.clock.proofs.Calls.{rate_front}
use Rattle.clock.proofs.Results.{Rated, refused_result, rate_result}
use Rattle.playing.specs.Playing.{in_play}
use Rattle.playing.proofs.Calls.{play_front, play_17, play_18, clips_of, end_tick}
use Rattle.playing.proofs.in_play.Goals as goal
use Rattle.playing.proofs.in_play.Goals.{In_ok-whole}

-- past the first refusals
passed : (c : In_ok-whole) → let a = c.args in Rated a.words.now a.clips a.rate c.in_ok-whole.whole
passed c = rate_result _ _ _ _ c.in_ok-whole.ensures

pub returns-in_err-whole : goal.returns-in_err-whole
unfolding in_play
returns-in_err-whole c = refused_result _ _ _ _ _ c.from_residual.ensures.1 ((rate_front _ _ _).refuses _ _ (given_refuses _ _)) c.in_err-whole.ensures

pub returns-then-whole-eq0 : goal.returns-then-whole-eq0
returns-then-whole-eq0 c = let w = passed (goal.at.returns-then-whole-eq0 c).In_ok-whole in sym (play_17 _ _ _ _ _ w.on (omega (arith, w.sum)))

pub returns-then-end-tick : goal.returns-then-end-tick
returns-then-end-tick c =
    let w = passed (goal.at.returns-then-end-tick c).In_ok-whole in
    let e = end_tick _ _ _ _ _ w.sum (omega (arith, w.sum, w.on.table.short)) w.on.rate_high c.tick_at-end.ensures in
    sym (play_18 _ _ _ _ _ w.on (omega (arith, w.sum)) (omega (arith, e)))

pub returns : goal.returns
returns c =
    let a = c.args in let w = passed (goal.at.returns c).In_ok-whole in
    let e = end_tick a.words.now a.clips _ _ _ w.sum (omega (arith, w.sum, w.on.table.short)) w.on.rate_high c.tick_at-end.ensures in
    let p : 0 < sum_lengths a.words.now a.clips = omega (arith, w.sum) in
    ap given w.sum ∙ sym ((play_front _ _ _ _).on _ (record { at_rate = w.on; some_clips = clips_of _ _ p; plays = p; in_time = omega (arith, e) }))
