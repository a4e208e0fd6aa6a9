-- `cues`: the header and the lines of the pass, one behind the other. Assumes nothing.
use Rattle.output.proofs.Laws.{puts_then, sends_then}
use Rattle.cues.proofs.lines.cues.Goals as goal

pub returns : goal.returns
returns g c = record {
  puts = puts_then c.put_bytes.ensures.puts c.each.ensures.puts;
  sent = sends_then g.O.Write.contents c.each.ensures.puts c.put_bytes.ensures.sent c.each.ensures.sent;
}
