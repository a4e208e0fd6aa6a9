-- `other_type` meets its contract: its three pieces, one behind the other. Assumes nothing.
use Rattle.put.proofs.Putting.{puts_then}
use Rattle.headlines.proofs.other_type.Goals as goal

pub returns : goal.returns
returns c = puts_then c.copy-start.ensures (puts_then c.shown-end.ensures c.byte.ensures)
