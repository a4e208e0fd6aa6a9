-- `field`: the number's digits, then a tab. Assumes nothing.
use Rattle.output.proofs.Laws.{puts_then, sends_then}
use Rattle.printing.specs.Lines.{field}
use Rattle.printing.proofs.field.Goals as goal

pub returns : goal.returns
unfolding field
returns g c =
    let digits = c.put_number.ensures in
    let end = c.put_byte.ensures in
    record { puts = puts_then digits.puts end.puts; sent = sends_then g.W.Write.contents end.puts digits.sent end.sent }
