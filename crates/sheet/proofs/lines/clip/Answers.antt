-- `clip`: its fields and the URI, one behind the other. Assumes nothing.
use Rattle.output.proofs.Laws.{puts_then, sends_then}
use Rattle.sheet.specs.Sheet.{clip_line}
use Rattle.sheet.specs.Inside.Pass.{row_line}
use Rattle.sheet.proofs.lines.clip.Goals as goal

pub returns : goal.returns
unfolding row_line clip_line
returns g c =
    let contents = g.O.Write.contents in
    let line = c.put_byte.ensures.puts in
    let uri = puts_then (rw (c.clip_word-start.ensures, c.clip_word-end.ensures) at c.put_part.ensures.puts) line in
    let tick = puts_then c.field-4.ensures.puts uri in
    let length = puts_then c.field-3.ensures.puts tick in
    let start = puts_then c.field-2.ensures.puts length in
    record {
      puts = puts_then c.field.ensures.puts start;
      sent =
          sends_then contents start c.field.ensures.sent
          (sends_then contents length c.field-2.ensures.sent
          (sends_then contents tick c.field-3.ensures.sent
          (sends_then contents uri c.field-4.ensures.sent
          (sends_then contents line (rw (c.clip_word-start.ensures, c.clip_word-end.ensures) at c.put_part.ensures.sent)
          c.put_byte.ensures.sent))));
    }
