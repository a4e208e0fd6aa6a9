-- `lengths::duration::fraction_end` meets its contract: the digits after the point are the run that stands there. Assumes nothing.
use native.Mathlib.Omega.{arith}
use mathlib.Core.Path.{◌≡◌, sym, ◌∙◌}
use mathlib.Core.Bool.{true}
use borrow.Author.Tests.{lt-ltb, le-ltb}
use Rattle.text.specs.Nom.{bytes, tagged}
use Rattle.text.proofs.Laws.{tagged_within}
use Rattle.lengths.specs.Duration.{counted}
use Rattle.lengths.proofs.duration.fraction_end.Goals as goal
use Rattle.lengths.proofs.duration.fraction_end.Goals.{Then-starts_with}

-- the point is there
point : (c : Then-starts_with) → (let a = c.args in tagged (bytes ".") a.text.now a.at ≡ true)
point c = sym c.starts_with.ensures ∙ c.if-starts_with.true

pub overflow_add-at : goal.overflow_add-at
overflow_add-at c = omega (arith, tagged_within _ _ _ (omega arith) (point (goal.at.overflow_add-at c).Then-starts_with))

pub overflow_add-at-then-starts_with : goal.overflow_add-at-then-starts_with
overflow_add-at-then-starts_with c = omega (arith, tagged_within _ _ _ (omega arith) (point (goal.at.overflow_add-at-then-starts_with c).Then-starts_with))

pub returns-then-at-end : goal.returns-then-at-end
unfolding counted
returns-then-at-end c = rw (point (goal.at.returns-then-at-end c).Then-starts_with, ← c.digits_end-end.ensures, lt-ltb _ _ c.if-at-end.true)

pub returns-else-at-end : goal.returns-else-at-end
unfolding counted
returns-else-at-end c = rw (point (goal.at.returns-else-at-end c).Then-starts_with, ← c.digits_end-end.ensures, le-ltb _ _ c.if-at-end.false)

pub returns-else-starts_with : goal.returns-else-starts_with
returns-else-starts_with c = rw (sym c.starts_with.ensures ∙ c.if-starts_with.false)
