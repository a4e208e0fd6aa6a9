-- `segment_tag`: what `tried_tag` ensures, but for the reason (`segment_matched`). Assumes nothing.
use mathlib.Core.Path.{◌∙◌, ap}
use Rattle.text.specs.Why.{other_text}
use Rattle.text.specs.Nom.{fail, or_else}
use Rattle.tags.specs.Answers.{tag_res}
use Rattle.tags.proofs.Tried.{either_said}
use Rattle.tags.proofs.Matched.{segment_matched}
use Rattle.clip_tags.proofs.segment_tag.Goals as goal

pub returns : goal.returns
returns c kept =
    let tried = c.tried_tag.ensures kept in
    (ap tag_res c.or.ensures ∙ either_said _ _ ∙ ap (λ x. or_else x (fail other_text)) tried.0 ∙ segment_matched _ _, tried.1)
