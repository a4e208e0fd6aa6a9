-- `tick_of`: together the pieces are the tick (`tick_parts`). Assumes nothing.
use Rattle.clock.proofs.Moments.{tick_parts}
use Rattle.clock.proofs.tick_of.Goals as goal

pub returns : goal.returns
returns c = let a = c.args in tick_parts a.turn a.whole a.before a.rate
