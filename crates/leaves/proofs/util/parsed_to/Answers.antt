-- `util::parsed_to`: the test of its one branch. Assumes nothing.
use borrow.Author.Tests.{lt-ltb, le-ltb}
use Rattle.leaves.proofs.util.parsed_to.Goals as goal

pub returns-then-at-end : goal.returns-then-at-end
returns-then-at-end c = rw (lt-ltb _ _ c.if-at-end.true)

pub returns-else-at-end : goal.returns-else-at-end
returns-else-at-end c = rw (le-ltb _ _ c.if-at-end.false)
