-- `map_line` meets its contract: its pieces, one behind the other. Assumes nothing.
use Rattle.put.proofs.Putting.{puts_then}
use Rattle.cliplines.proofs.lines.map_line.Goals as goal

pub returns : goal.returns
returns c = puts_then c.copy-start.ensures (puts_then c.shown-quote.ensures (puts_then c.byte-comma.ensures (puts_then c.map_range-end.ensures c.byte.ensures)))
