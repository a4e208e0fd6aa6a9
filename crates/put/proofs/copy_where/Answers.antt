-- `copy_where` meets its contract: there or not. Assumes nothing.
use Rattle.put.proofs.Putting.{puts_none}
use Rattle.put.proofs.copy_where.Goals as goal

pub returns-then-there : goal.returns-then-there
returns-then-there c = rw c.if-there.true c.copy.ensures

pub returns : goal.returns
returns c = rw c.if-there.false puts_none
