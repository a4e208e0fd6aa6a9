-- `byte` meets its contract: it has room, or it is lost. Assumes nothing.
use Rattle.put.proofs.Putting.{byte_fits, puts_lost}
use Rattle.put.proofs.byte.Goals as goal

pub returns-then-at-out : goal.returns-then-at-out
returns-then-at-out c = byte_fits c.if-at-out.true

pub returns : goal.returns
returns c = puts_lost _ c.if-at-out.false
