-- `held::attr_at`: the words, and the tests of the first. Assumes nothing.
use borrow.Author.Tests.{eq-eqb, ne_eqb}
use Rattle.attributes.proofs.held.attr_at.Goals as goal

pub returns-then-kind-eq-UNQUOTED : goal.returns-then-kind-eq-UNQUOTED
returns-then-kind-eq-UNQUOTED c = rw (← c.word-kind.ensures, ← c.word-2.ensures, ← c.word.ensures, eq-eqb _ _ c.if-kind-eq-UNQUOTED.true)

pub returns-then-kind-eq-QUOTED : goal.returns-then-kind-eq-QUOTED
returns-then-kind-eq-QUOTED c = rw (← c.word-kind.ensures, ← c.word-2.ensures, ← c.word.ensures, ne_eqb _ _ c.if-kind-eq-UNQUOTED.false, eq-eqb _ _ c.if-kind-eq-QUOTED.true)

pub returns : goal.returns
returns c = rw (← c.word-kind.ensures, ne_eqb _ _ c.if-kind-eq-UNQUOTED.false, ne_eqb _ _ c.if-kind-eq-QUOTED.false)
