-- `extinf_shown` meets its contract: its five pieces, one behind the other. Assumes nothing.
use Rattle.put.proofs.Putting.{puts_then}
use Rattle.cliplines.proofs.lines.extinf_shown.Goals as goal

pub returns : goal.returns
returns c = puts_then c.copy-start.ensures (puts_then c.length-comma.ensures (puts_then c.byte-shown.ensures (puts_then c.shown-end.ensures c.byte.ensures)))
