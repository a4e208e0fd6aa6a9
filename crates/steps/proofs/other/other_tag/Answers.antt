-- `other::other_tag`: what `ext_tag`, `comment_tag` and `uri_line` ensure, in this order. Assumes nothing.
use Rattle.tags.specs.Tags.{other_tag}
use Rattle.text.specs.Answers.{part_res}
use Rattle.leaves.specs.Answers.{ext_tag_res}
use mathlib.Core.Path.{sym, ◌∙◌, ap}
use Rattle.steps.proofs.other.other_tag.Goals as goal

pub returns-in-Ok : goal.returns-in-Ok
unfolding other_tag
returns-in-Ok c = rw (sym c.ext_tag.ensures ∙ ap ext_tag_res c.in-Ok.is)

pub returns-in-Ok-comment_tag : goal.returns-in-Ok-comment_tag
unfolding other_tag
returns-in-Ok-comment_tag c = rw (sym c.ext_tag.ensures ∙ ap ext_tag_res c.in_default.is, sym c.comment_tag.ensures ∙ ap part_res c.in-Ok-comment_tag.is)

pub returns : goal.returns
unfolding other_tag
returns c = rw (sym c.ext_tag.ensures ∙ ap ext_tag_res c.in_default.is, sym c.comment_tag.ensures ∙ ap part_res c.in_default-comment_tag.is) c.uri_line.ensures
