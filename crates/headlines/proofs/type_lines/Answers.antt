-- `type_lines` meets its contract: nothing, or the line of each kind. Assumes nothing.
use mathlib.Core.Path.{sym}
use Rattle.text.specs.BasicTags.{event, vod, other}
use Rattle.text.specs.Answers.{span_of}
use Rattle.playlist.specs.Lines.{type_line_of}
use Rattle.playlist.proofs.Lines.{no_line, one_line}
use Rattle.put.proofs.Putting.{puts_none, puts_as}
use Rattle.headlines.proofs.type_lines.Goals as goal

pub returns-in-None : goal.returns-in-None
returns-in-None c = rw (c.in-None.is, no_line) puts_none

pub returns-in-Event : goal.returns-in-Event
returns-in-Event c = rw (c.in-Some.is, c.in-Event.is) (puts_as (sym (one_line (type_line_of c.args.text.now event))) c.copy.ensures)

pub returns-in-Vod : goal.returns-in-Vod
returns-in-Vod c = rw (c.in-Some.is, c.in-Vod.is) (puts_as (sym (one_line (type_line_of c.args.text.now vod))) c.copy-in-Vod.ensures)

pub returns-in-Other : goal.returns-in-Other
returns-in-Other c = rw (c.in-Some.is, c.in-Other.is) (puts_as (sym (one_line (type_line_of c.args.text.now (other (span_of c.in-Other.s))))) c.other_type.ensures)
