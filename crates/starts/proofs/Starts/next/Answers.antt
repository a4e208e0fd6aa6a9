-- `Starts::next`: its three ways out are `next_done`, `next_9` and `next_clip`; in the limits no sum overflows (`limits_hold`). Assumes nothing.
use native.Mathlib.Omega.{arith}
use mathlib.Core.Path.{sym, ◌∙◌}
use Rattle.clock.proofs.Moments.{tick_in_reach}
use Rattle.starts.proofs.Pass.{Limits, limits_hold, next_done, next_9, next_clip}
use Rattle.starts.proofs.Starts.next.Goals as goal
use Rattle.starts.proofs.Starts.next.Goals.{Else-not-in_limits}

limits : (c : Else-not-in_limits) → let s = c.args.self in Limits s.clips s.rate s.turn s.total s.clip s.before c.clip_word-length.result
limits c = limits_hold _ _ _ _ _ _ _ (sym c.in_limits.ensures ∙ c.if-not-in_limits.false)

pub returns-then-self-clip : goal.returns-then-self-clip
returns-then-self-clip c = sym (next_done _ _ _ _ _ _ _ (omega arith))

pub returns-then-not-in_limits : goal.returns-then-not-in_limits
returns-then-not-in_limits c =
    let e = sym c.in_limits.ensures ∙ c.if-not-in_limits.true in
    sym (next_9 _ _ _ _ _ _ _ _ (omega arith) c.clip_word-length.ensures e)

pub overflow_add-after-2 : goal.overflow_add-after-2
overflow_add-after-2 c = omega (arith, limits (goal.at.overflow_add-after-2 c).Else-not-in_limits)

pub returns : goal.returns
returns c =
    let e = sym c.in_limits.ensures ∙ c.if-not-in_limits.false in
    let l = limits (goal.at.returns c).Else-not-in_limits in
    let tick = c.tick_at.ensures ∙ tick_in_reach _ _ _ _ (omega (arith, l.turn_high)) l.total_high (omega (arith, l.room)) l.rate_high in
    sym (next_clip _ _ _ _ _ _ _ _ _ (omega arith) c.clip_word-length.ensures e tick)
