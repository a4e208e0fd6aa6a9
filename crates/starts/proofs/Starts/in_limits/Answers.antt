-- `Starts::in_limits`: past a limit the rule doesn't hold (`limits_past`); else the room decides, measured without the sum (`room_left`). Assumes nothing.
use native.Mathlib.Omega.{arith}
use mathlib.Core.Path.{sym, ◌∙◌}
use Rattle.starts.proofs.Pass.{limits_past, limits_room, room_left}
use Rattle.starts.proofs.Starts.in_limits.Goals as goal

pub returns-then-self-gt-LARGEST_RATE : goal.returns-then-self-gt-LARGEST_RATE
returns-then-self-gt-LARGEST_RATE c = sym (limits_past _ _ _ _ _ _ _ (λ l. grind (arith, l.rate_high, l.turn_high, l.total_high, l.room, c.then-self-gt-LARGEST_RATE.either)))

pub returns : goal.returns
returns c = room_left _ _ _ (omega arith) ∙ sym (limits_room _ _ _ _ _ _ _ (omega arith) (omega arith) (omega arith))
