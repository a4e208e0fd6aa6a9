-- `number_line` meets its contract: its three pieces, one behind the other. Assumes nothing.
use Rattle.put.proofs.Putting.{puts_then}
use Rattle.headlines.proofs.number_line.Goals as goal

pub returns : goal.returns
returns c = puts_then c.copy-start.ensures (puts_then c.number-end.ensures c.byte.ensures)
