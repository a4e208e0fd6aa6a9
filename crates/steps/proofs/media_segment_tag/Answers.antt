-- `media_segment_tag`: a tag of a clip, or what else may stand there, with the memory that `segment_tag` leaves. Assumes nothing.
use borrow.Author.Rules.{rules}
use Rattle.tags.specs.Tags.{media_segment_tag}
use Rattle.steps.proofs.media_segment_tag.Goals as goal

pub returns : goal.returns
unfolding media_segment_tag
returns c = search rules
