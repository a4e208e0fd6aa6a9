-- `pair::quoted`: each way out is the tests on the way, in the rule's order. Assumes nothing.
use native.Mathlib.Omega.{arith}
use mathlib.Core.Path.{◌≡◌, sym, ◌∙◌}
use mathlib.Core.Bool.{true}
use borrow.Author.Tests.{lt-ltb, le-ltb}
use Rattle.text.specs.Nom.{bytes, tagged}
use Rattle.text.proofs.Laws.{tagged_within}
use Rattle.attributes.specs.Pairs.{quoted}
use Rattle.attributes.proofs.pair.quoted.Goals as goal
use Rattle.attributes.proofs.pair.quoted.Goals.{Then-starts_with}

-- the first quote mark is there
opened : (c : Then-starts_with) → tagged (bytes "\"") c.args.text.now c.args.at ≡ true
opened c = sym c.starts_with.ensures ∙ c.if-starts_with.true

pub overflow_add-start : goal.overflow_add-start
overflow_add-start c = omega (arith, tagged_within _ _ _ (omega arith) (opened (goal.at.overflow_add-start c).Then-starts_with))

pub returns-then-end-start : goal.returns-then-end-start
unfolding quoted
returns-then-end-start c = rw (opened (goal.at.returns-then-end-start c).Then-starts_with, ← c.until-end.ensures, le-ltb _ _ c.if-end-start.true)

pub overflow_add-result : goal.overflow_add-result
overflow_add-result c = omega (arith, tagged_within _ _ _ (omega arith) (sym c.starts_with-then-starts_with.ensures ∙ c.if-starts_with-2.true))

pub returns-then-starts_with-2 : goal.returns-then-starts_with-2
unfolding quoted
returns-then-starts_with-2 c = rw (opened (goal.at.returns-then-starts_with-2 c).Then-starts_with, ← c.until-end.ensures, lt-ltb _ _ c.if-end-start.false, sym c.starts_with-then-starts_with.ensures ∙ c.if-starts_with-2.true)

pub returns-else-starts_with-2 : goal.returns-else-starts_with-2
unfolding quoted
returns-else-starts_with-2 c = rw (opened (goal.at.returns-else-starts_with-2 c).Then-starts_with, ← c.until-end.ensures, lt-ltb _ _ c.if-end-start.false, sym c.starts_with-then-starts_with.ensures ∙ c.if-starts_with-2.false)

pub returns-else-starts_with : goal.returns-else-starts_with
unfolding quoted
returns-else-starts_with c = rw (sym c.starts_with.ensures ∙ c.if-starts_with.false)
