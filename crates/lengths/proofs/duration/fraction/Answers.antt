-- `lengths::duration::fraction` meets its contract, by `counted`'s: a point that is there is within the text. Assumes nothing.
use native.Mathlib.Omega.{arith}
use mathlib.Core.Path.{sym, ◌∙◌}
use Rattle.text.proofs.Laws.{tagged_within}
use Rattle.lengths.proofs.duration.fraction.Goals as goal

pub overflow_add-at : goal.overflow_add-at
overflow_add-at c = omega (arith, tagged_within _ _ _ (omega arith) (sym c.starts_with.ensures ∙ c.if-starts_with.true))

pub returns-then-starts_with : goal.returns-then-starts_with
returns-then-starts_with c = rw (sym c.starts_with.ensures ∙ c.if-starts_with.true) c.counted.ensures

pub returns-else-starts_with : goal.returns-else-starts_with
returns-else-starts_with c = rw (sym c.starts_with.ensures ∙ c.if-starts_with.false)
