-- `lines::named`: what `starts_with` ensures; a text that is there is within. Assumes nothing.
use native.Mathlib.Omega.{arith}
use Prim.Native.Nat.{◌-◌, ◌^◌}
use Rattle.text.proofs.Laws.{tagged_below}
use Rattle.verdict.specs.Inside.Letters.{or_row}
use mathlib.Core.Path.{sym, ◌∙◌}
use Rattle.verdict.proofs.lines.named.Goals as goal

pub overflow_add-result : goal.overflow_add-result
overflow_add-result c = omega (arith, tagged_below _ _ _ (2 ^ 64 - 1) (omega arith) (omega arith) (sym c.starts_with.ensures ∙ c.if-starts_with.true))

pub returns-then-starts_with : goal.returns-then-starts_with
unfolding or_row
returns-then-starts_with c = rw (sym c.starts_with.ensures ∙ c.if-starts_with.true)

pub returns-else-starts_with : goal.returns-else-starts_with
unfolding or_row
returns-else-starts_with c = rw (sym c.starts_with.ensures ∙ c.if-starts_with.false)
