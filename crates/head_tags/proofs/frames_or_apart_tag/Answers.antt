-- `frames_or_apart_tag`: the tests of the code are those of the rule. Assumes nothing.
use Prim.Native.Nat.{◌-◌, ◌^◌}
use mathlib.Core.Path.{sym, ◌∙◌}
use native.Mathlib.Omega.{arith}
use Rattle.text.proofs.Laws.{tagged_below}
use Rattle.tags.specs.Tags.{matched, independent_segments_row}
use Rattle.tags.proofs.Matched.{one_row}
use Rattle.head_tags.proofs.frames_or_apart_tag.Goals as goal

pub overflow_add-after : goal.overflow_add-after
overflow_add-after c = omega (arith, tagged_below _ _ _ (2 ^ 64 - 1) (omega arith) (omega arith) (sym c.starts_with.ensures ∙ c.if-starts_with.true))

pub returns-then-starts_with : goal.returns-then-starts_with
unfolding matched
returns-then-starts_with c = rw (sym c.starts_with.ensures ∙ c.if-starts_with.true)

pub returns : goal.returns
unfolding matched
returns c = rw (sym c.starts_with.ensures ∙ c.if-starts_with.false) (c.marked.ensures ∙ one_row _ _ independent_segments_row)
