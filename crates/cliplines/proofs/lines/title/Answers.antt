-- `title` meets its contract: nothing, or the title. Assumes nothing.
use Rattle.put.proofs.Putting.{puts_none}
use Rattle.cliplines.proofs.lines.title.Goals as goal

pub returns-in-None : goal.returns-in-None
returns-in-None c = rw c.in-None.is puts_none
