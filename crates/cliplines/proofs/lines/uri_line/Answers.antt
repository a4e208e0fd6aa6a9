-- `uri_line` meets its contract: its two pieces, one behind the other. Assumes nothing.
use Rattle.put.proofs.Putting.{puts_then}
use Rattle.cliplines.proofs.lines.uri_line.Goals as goal

pub returns : goal.returns
returns c = puts_then c.shown-end.ensures c.byte.ensures
