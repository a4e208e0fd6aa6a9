-- `lines::or_named`: what was found stays; else what `named` ensures. Assumes nothing.
use borrow.Author.Rules.{rules}
use Rattle.verdict.specs.Inside.Letters.{or_row}
use Rattle.verdict.proofs.lines.or_named.Goals as goal

pub returns : goal.returns
unfolding or_row
returns c = search rules
