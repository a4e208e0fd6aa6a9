-- `sequence_line` meets its contract: nothing for 0, else the line of a number. Assumes nothing.
use borrow.Author.Tests.{eq-eqb, ne_eqb}
use Rattle.put.proofs.Putting.{puts_none}
use Rattle.headlines.proofs.sequence_line.Goals as goal

pub returns-then-n-eq0 : goal.returns-then-n-eq0
returns-then-n-eq0 c = rw (eq-eqb c.args.n 0 c.if-n-eq0.true) puts_none

pub returns : goal.returns
returns c = rw (ne_eqb c.args.n 0 c.if-n-eq0.false) c.number_line.ensures
