-- `range_line` meets its contract: its pieces, one behind the other. Assumes nothing.
use Rattle.put.proofs.Putting.{puts_then}
use Rattle.cliplines.proofs.lines.range_line.Goals as goal

pub returns : goal.returns
returns c = puts_then c.copy-value.ensures (puts_then c.range_value-end.ensures c.byte.ensures)
