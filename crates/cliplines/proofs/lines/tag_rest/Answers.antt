-- `tag_rest` meets its contract: nothing, or a colon and the rest. Assumes nothing.
use Rattle.put.proofs.Putting.{puts_none, puts_then}
use Rattle.cliplines.proofs.lines.tag_rest.Goals as goal

pub returns-in-None : goal.returns-in-None
returns-in-None c = rw c.in-None.is puts_none

pub returns-in-Some : goal.returns-in-Some
returns-in-Some c = rw c.in-Some.is (puts_then c.byte-start.ensures c.shown.ensures)
