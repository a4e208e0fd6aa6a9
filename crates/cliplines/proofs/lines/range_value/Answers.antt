-- `range_value` meets its contract: a length, with and without an offset. Assumes nothing.
use Rattle.put.proofs.Putting.{puts_then}
use Rattle.cliplines.proofs.lines.range_value.Goals as goal

pub returns-in-None : goal.returns-in-None
returns-in-None c = rw c.in-None.is c.number-sign.ensures

pub returns-in-Some : goal.returns-in-Some
returns-in-Some c = rw c.in-Some.is (puts_then c.number-sign.ensures (puts_then c.byte-value.ensures c.number.ensures))
