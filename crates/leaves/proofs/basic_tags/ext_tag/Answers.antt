-- `basic_tags::ext_tag`: each way out is the tests and scans on the way, in the rule's order. Assumes nothing.
use native.Mathlib.Omega.{arith}
use mathlib.Core.Path.{◌≡◌, sym, ◌∙◌}
use mathlib.Core.Bool.{true}
use borrow.Author.Tests.{lt-ltb, le-ltb}
use Rattle.text.specs.Nom.{bytes, tagged}
use Rattle.text.specs.BasicTags.{ext_tag}
use Rattle.text.proofs.Laws.{tagged_within}
use Rattle.leaves.proofs.basic_tags.ext_tag.Goals as goal
use Rattle.leaves.proofs.basic_tags.ext_tag.Goals.{Else-not-starts_with}

-- the tag is there
marked : (c : Else-not-starts_with) → tagged (bytes "#EXT-") c.args.text.now c.args.at ≡ true
marked c = sym c.starts_with.ensures ∙ c.if-not-starts_with.false

pub overflow_add-name : goal.overflow_add-name
overflow_add-name c = omega (arith, tagged_within _ _ _ (omega arith) (marked (goal.at.overflow_add-name c).Else-not-starts_with))

pub returns-then-name_end-name : goal.returns-then-name_end-name
unfolding ext_tag
returns-then-name_end-name c = rw (marked (goal.at.returns-then-name_end-name c).Else-not-starts_with, ← c.until-name_end.ensures, le-ltb _ _ c.if-name_end-name.true)

pub returns-then-text-rest_end : goal.returns-then-text-rest_end
unfolding ext_tag
returns-then-text-rest_end c = rw (marked (goal.at.returns-then-text-rest_end c).Else-not-starts_with, ← c.until-name_end.ensures, lt-ltb _ _ c.if-name_end-name.false, ← c.after_tag-rest.ensures, ← c.line_end-rest_end.ensures, le-ltb _ _ c.if-text-rest_end.true)

pub returns : goal.returns
unfolding ext_tag
returns c = rw (marked (goal.at.returns c).Else-not-starts_with, ← c.until-name_end.ensures, lt-ltb _ _ c.if-name_end-name.false, ← c.after_tag-rest.ensures, ← c.line_end-rest_end.ensures, lt-ltb _ _ c.if-text-rest_end.false, ← c.part-rest.ensures)

pub returns-then-not-starts_with : goal.returns-then-not-starts_with
unfolding ext_tag
returns-then-not-starts_with c = rw (sym c.starts_with.ensures ∙ c.if-not-starts_with.true)
