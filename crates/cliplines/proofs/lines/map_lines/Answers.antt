-- `map_lines` meets its contract: nothing, or one line. Assumes nothing.
use mathlib.Core.Path.{sym}
use Rattle.attributes.specs.Answers.{map_of}
use Rattle.playlist.specs.Lines.{map_line_of}
use Rattle.playlist.proofs.Lines.{no_line, one_line}
use Rattle.put.proofs.Putting.{puts_none, puts_as}
use Rattle.cliplines.proofs.lines.map_lines.Goals as goal

pub returns-in-None : goal.returns-in-None
returns-in-None c = rw (c.in-None.is, no_line) puts_none

pub returns-in-Some : goal.returns-in-Some
returns-in-Some c = rw c.in-Some.is (puts_as (sym (one_line (map_line_of c.args.text.now (map_of c.in-Some.m)))) c.map_line.ensures)
