-- `marked`: what `starts_with` ensures; a text that is there is within. Assumes nothing.
use native.Mathlib.Omega.{arith}
use Prim.Native.Nat.{◌-◌, ◌^◌}
use Rattle.text.proofs.Laws.{tagged_below}
use mathlib.Core.Path.{sym, ◌∙◌}
use Rattle.head_tags.proofs.marked.Goals as goal

pub overflow_add-after : goal.overflow_add-after
overflow_add-after c = omega (arith, tagged_below _ _ _ (2 ^ 64 - 1) (omega arith) (omega arith) (sym c.starts_with.ensures ∙ c.if-starts_with.true))

pub returns-then-starts_with : goal.returns-then-starts_with
returns-then-starts_with c = rw (sym c.starts_with.ensures ∙ c.if-starts_with.true)

pub returns : goal.returns
returns c = rw (sym c.starts_with.ensures ∙ c.if-starts_with.false)
