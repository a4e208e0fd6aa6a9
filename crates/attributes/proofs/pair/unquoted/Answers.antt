-- `pair::unquoted`: one scan, and one test of where it ends. Assumes nothing.
use borrow.Author.Tests.{lt-ltb, le-ltb}
use Rattle.attributes.specs.Pairs.{unquoted}
use Rattle.attributes.proofs.pair.unquoted.Goals as goal

pub returns-then-at-end : goal.returns-then-at-end
unfolding unquoted
returns-then-at-end c = rw (← c.until-end.ensures, lt-ltb _ _ c.if-at-end.true)

pub returns-else-at-end : goal.returns-else-at-end
unfolding unquoted
returns-else-at-end c = rw (← c.until-end.ensures, le-ltb _ _ c.if-at-end.false)
