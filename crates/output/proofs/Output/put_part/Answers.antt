-- `put_part`: nothing, or the bytes of the part. Rests on `part_there`, `part_past_text`, `part_reversed`. Assumes nothing.
use borrow.Author.Rules.{rules}
use Rattle.output.proofs.Laws.{puts_none, puts_as, sends_none, sends_as, part_there, part_past_text, part_reversed}
use Rattle.output.proofs.Output.put_part.Goals as goal

pub returns-then-text-end : goal.returns-then-text-end
returns-then-text-end g c =
    let a = c.args in
    let none = part_past_text a.text.now a.start a.end (search rules) in
    record { puts = puts_as none (puts_none _); sent = sends_as g.W.Write.contents none (sends_none g.W.Write.contents _) }

pub returns-then-end-start : goal.returns-then-end-start
returns-then-end-start g c =
    let a = c.args in
    let none = part_reversed a.text.now a.start a.end (search rules) (search rules) in
    record { puts = puts_as none (puts_none _); sent = sends_as g.W.Write.contents none (sends_none g.W.Write.contents _) }

pub returns : goal.returns
returns g c =
    let a = c.args in
    let there = part_there a.text.now a.start a.end (search rules) (search rules) in
    record { puts = puts_as there c.put_bytes.ensures.puts; sent = sends_as g.W.Write.contents there c.put_bytes.ensures.sent }
