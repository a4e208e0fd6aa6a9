-- `sheet`: the header, the lines of the pass and the total, one behind the other. Assumes nothing.
use Rattle.output.proofs.Laws.{puts_then, sends_then}
use Rattle.sheet.specs.Sheet.{total_line}
use Rattle.sheet.specs.Inside.Pass.{pass_sheet}
use Rattle.sheet.proofs.lines.sheet.Goals as goal

pub returns : goal.returns
unfolding pass_sheet total_line
returns g c =
    let contents = g.O.Write.contents in
    let number = c.number_line.ensures.puts in
    let total = puts_then c.put_bytes-2.ensures.puts number in
    let lines = puts_then c.clips.ensures.puts total in
    record {
      puts = puts_then c.put_bytes.ensures.puts lines;
      sent =
          sends_then contents lines c.put_bytes.ensures.sent
          (sends_then contents total c.clips.ensures.sent
          (sends_then contents number c.put_bytes-2.ensures.sent
          c.number_line.ensures.sent));
    }
