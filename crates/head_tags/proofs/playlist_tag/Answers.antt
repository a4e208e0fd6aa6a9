-- `playlist_tag`: what `tried_tag` ensures, but for the reason (`playlist_matched`). Assumes nothing.
use mathlib.Core.Path.{◌∙◌, ap}
use Rattle.text.specs.Why.{other_text}
use Rattle.text.specs.Nom.{fail, or_else}
use Rattle.tags.specs.Answers.{tag_res}
use Rattle.tags.proofs.Tried.{either_said}
use Rattle.tags.proofs.Matched.{playlist_matched}
use Rattle.head_tags.proofs.playlist_tag.Goals as goal

pub returns : goal.returns
returns c = ap tag_res c.or.ensures ∙ either_said _ _ ∙ ap (λ x. or_else x (fail other_text)) c.tried_tag.ensures ∙ playlist_matched _ _
