-- `refused`: its words and numbers, one behind the other. Assumes nothing.
use Rattle.output.proofs.Laws.{puts_then, puts_first, sends_then, sends_first}
use Rattle.printing.specs.Lines.{refused_line}
use Rattle.printing.proofs.refused.Goals as goal

pub returns : goal.returns
unfolding refused_line
returns g c =
    let contents = g.W.Write.contents in
    let place = c.number_line.ensures in
    let at = puts_then c.put_bytes-2.ensures.puts place.puts in
    let number = puts_then c.put_number.ensures.puts at in
    let puts = puts_then c.put_bytes.ensures.puts number in
    let sent =
    sends_then contents number c.put_bytes.ensures.sent
    (sends_then contents at c.put_number.ensures.sent
    (sends_then contents place.puts c.put_bytes-2.ensures.sent place.sent)) in
    record {
      puts = puts;
      sent = sent;
      first = λ z n. puts_first z n puts;
      first_sent = λ z. sends_first contents z sent;
    }
