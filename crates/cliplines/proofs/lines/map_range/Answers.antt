-- `map_range` meets its contract: nothing, or a range and what stands around it. Assumes nothing.
use Rattle.put.proofs.Putting.{puts_none, puts_then}
use Rattle.cliplines.proofs.lines.map_range.Goals as goal

pub returns-in-None : goal.returns-in-None
returns-in-None c = rw c.in-None.is puts_none

pub returns-in-Some : goal.returns-in-Some
returns-in-Some c = rw c.in-Some.is (puts_then c.copy-value.ensures (puts_then c.range_value-end.ensures c.byte.ensures))
