-- `range_lines` meets its contract: nothing, or one line. Assumes nothing.
use mathlib.Core.Path.{sym}
use Rattle.leaves.specs.Answers.{byte_range_of}
use Rattle.playlist.specs.Lines.{byte_range_line}
use Rattle.playlist.proofs.Lines.{no_line, one_line}
use Rattle.put.proofs.Putting.{puts_none, puts_as}
use Rattle.cliplines.proofs.lines.range_lines.Goals as goal

pub returns-in-None : goal.returns-in-None
returns-in-None c = rw (c.in-None.is, no_line) puts_none

pub returns-in-Some : goal.returns-in-Some
returns-in-Some c = rw c.in-Some.is (puts_as (sym (one_line (byte_range_line (byte_range_of c.in-Some.r)))) c.range_line.ensures)
