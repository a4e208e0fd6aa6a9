-- `basic_tags::comment_tag`: each way out is the tests and scans on the way, in the rule's order. Assumes nothing.
use native.Mathlib.Omega.{arith}
use mathlib.Core.Path.{◌≡◌, sym, ◌∙◌}
use mathlib.Core.Bool.{true}
use borrow.Author.Tests.{lt-ltb, le-ltb}
use Rattle.text.specs.Nom.{bytes, tagged}
use Rattle.text.specs.BasicTags.{comment_tag}
use Rattle.text.proofs.Laws.{tagged_within}
use Rattle.leaves.proofs.basic_tags.comment_tag.Goals as goal
use Rattle.leaves.proofs.basic_tags.comment_tag.Goals.{Else-not-starts_with}

-- the tag is there
marked : (c : Else-not-starts_with) → tagged (bytes "#") c.args.text.now c.args.at ≡ true
marked c = sym c.starts_with.ensures ∙ c.if-not-starts_with.false

pub overflow_add-start : goal.overflow_add-start
overflow_add-start c = omega (arith, tagged_within _ _ _ (omega arith) (marked (goal.at.overflow_add-start c).Else-not-starts_with))

pub returns-then-text-end : goal.returns-then-text-end
unfolding comment_tag
returns-then-text-end c = rw (marked (goal.at.returns-then-text-end c).Else-not-starts_with, ← c.line_end-end.ensures, le-ltb _ _ c.if-text-end.true)

pub returns : goal.returns
unfolding comment_tag
returns c = rw (marked (goal.at.returns c).Else-not-starts_with, ← c.line_end-end.ensures, lt-ltb _ _ c.if-text-end.false, ← c.part.ensures)

pub returns-then-not-starts_with : goal.returns-then-not-starts_with
unfolding comment_tag
returns-then-not-starts_with c = rw (sym c.starts_with.ensures ∙ c.if-not-starts_with.true)
