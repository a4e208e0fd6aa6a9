-- `lines::media_or_map_tag`: what `group_tag` and `or_named` ensure, in turn. Assumes nothing.
use Rattle.verdict.proofs.lines.media_or_map_tag.Goals as goal

pub returns : goal.returns
returns c = rw (rw c.group_tag-found.ensures at c.or_named-found.ensures) at c.or_named.ensures
