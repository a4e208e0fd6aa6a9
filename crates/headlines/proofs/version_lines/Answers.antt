-- `version_lines` meets its contract: a line or nothing. Assumes nothing.
use mathlib.Core.Path.{sym}
use Rattle.playlist.specs.Lines.{version_line}
use Rattle.playlist.proofs.Lines.{no_line, one_line}
use Rattle.put.proofs.Putting.{puts_none, puts_as}
use Rattle.headlines.proofs.version_lines.Goals as goal

pub returns-in-None : goal.returns-in-None
returns-in-None c = rw (c.in-None.is, no_line) puts_none

pub returns-in-Some : goal.returns-in-Some
returns-in-Some c = rw c.in-Some.is (puts_as (sym (one_line (version_line c.in-Some.n))) c.number_line.ensures)
