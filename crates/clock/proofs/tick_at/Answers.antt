-- `tick_at`: no tick past a limit (`tick_past`), else the moment's (`tick_in_reach`). Assumes nothing.
use native.Mathlib.Omega.{arith}
use mathlib.Core.Path.{sym, ◌∙◌}
use Rattle.clock.proofs.Moments.{tick_in_reach, tick_past}
use Rattle.clock.proofs.tick_at.Goals as goal

pub returns-then-turn-gt-TURNS : goal.returns-then-turn-gt-TURNS
returns-then-turn-gt-TURNS c = sym (tick_past _ _ _ _ (λ h. grind (arith, h, c.then-turn-gt-TURNS.either)))

pub returns : goal.returns
returns c = c.tick_of.ensures ∙ sym (tick_in_reach _ _ _ _ (omega arith) (omega arith) (omega arith) (omega arith))
