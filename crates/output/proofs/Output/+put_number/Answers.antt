-- `put_number`: by recursion on the quotient, which is less. Rests on `puts_then` and the digits' laws. Assumes nothing.
use mathlib.Core.Path.{sym}
use borrow.Author.Rules.{rules}
use Rattle.digits.proofs.Number.{number_small, number_more}
use Rattle.output.proofs.Laws.{puts_then, puts_as, sends_then, sends_as}
use Rattle.output.proofs.Output.+put_number.Goals as goal

pub returns-then-number-lt10 : goal.returns-then-number-lt10
returns-then-number-lt10 g t c =
    let digit = sym (number_small c.args.number (search rules)) in
    record { puts = puts_as digit c.put_byte.ensures.puts; sent = sends_as g.W.Write.contents digit c.put_byte.ensures.sent }

pub returns : goal.returns
returns g t c =
    let digits = sym (number_more c.args.number (search rules) (search rules)) in
    record {
      puts = puts_as digits (puts_then c.put_number.ensures.puts c.put_byte-2.ensures.puts);
      sent = sends_as g.W.Write.contents digits (sends_then g.W.Write.contents c.put_byte-2.ensures.puts c.put_number.ensures.sent c.put_byte-2.ensures.sent);
    }
