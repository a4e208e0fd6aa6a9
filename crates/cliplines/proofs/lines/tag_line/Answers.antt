-- `tag_line` meets its contract: its four pieces, one behind the other. Assumes nothing.
use Rattle.put.proofs.Putting.{puts_then}
use Rattle.cliplines.proofs.lines.tag_line.Goals as goal

pub returns : goal.returns
returns c = puts_then c.copy-start.ensures (puts_then c.shown-colon.ensures (puts_then c.tag_rest-end.ensures c.byte.ensures))
