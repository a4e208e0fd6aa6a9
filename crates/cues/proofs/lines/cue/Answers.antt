-- `cue`: its fields and the URI, one behind the other. Assumes nothing.
use Rattle.output.proofs.Laws.{puts_then, sends_then}
use Rattle.cues.specs.Shown.{cue_line}
use Rattle.cues.proofs.lines.cue.Goals as goal

pub returns : goal.returns
unfolding cue_line
returns g c =
    let contents = g.O.Write.contents in
    let line = c.put_byte.ensures.puts in
    let uri = puts_then c.put_part.ensures.puts line in
    let start = puts_then c.field-2.ensures.puts uri in
    record {
      puts = puts_then c.field.ensures.puts start;
      sent =
          sends_then contents start c.field.ensures.sent
          (sends_then contents uri c.field-2.ensures.sent
          (sends_then contents line c.put_part.ensures.sent
          c.put_byte.ensures.sent));
    }
