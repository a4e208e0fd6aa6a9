-- `basic_tags::m3u_tag`: what `starts_with` ensures. Assumes nothing.
use native.Mathlib.Omega.{arith}
use mathlib.Core.Path.{sym, ◌∙◌}
use Rattle.text.specs.BasicTags.{m3u_tag}
use Rattle.text.proofs.Laws.{tagged_within}
use Rattle.leaves.proofs.basic_tags.m3u_tag.Goals as goal

pub overflow_add-result : goal.overflow_add-result
overflow_add-result c = omega (arith, tagged_within _ _ _ (omega arith) (sym c.starts_with.ensures ∙ c.if-starts_with.true))

pub returns-then-starts_with : goal.returns-then-starts_with
unfolding m3u_tag
returns-then-starts_with c = rw (sym c.starts_with.ensures ∙ c.if-starts_with.true)

pub returns-else-starts_with : goal.returns-else-starts_with
unfolding m3u_tag
returns-else-starts_with c = rw (sym c.starts_with.ensures ∙ c.if-starts_with.false)
