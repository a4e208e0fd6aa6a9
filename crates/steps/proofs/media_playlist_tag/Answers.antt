-- `media_playlist_tag`: where no byte stands it fails, and where no `#` stands it is a URI; else the tags of the head, then the others. Assumes nothing.
use Rattle.tags.proofs.Tried.{failed, held}
use Rattle.tags.specs.Answers.{tag_res}
use Rattle.tags.proofs.Begins.{head_first, not_hash}
use Rattle.tags.specs.Tags.{media_playlist_tag}
use borrow.Author.Tests.{le-ltb}
use mathlib.Core.Path.{sym, ◌∙◌, ap}
use Rattle.steps.proofs.media_playlist_tag.Goals as goal

pub returns-then-text-at : goal.returns-then-text-at
unfolding media_playlist_tag
returns-then-text-at c kept = (rw (le-ltb _ _ c.if-text-at.true), kept)

pub returns-then-text-at-ne35 : goal.returns-then-text-at-ne35
returns-then-text-at-ne35 c kept = (c.uri_line.ensures ∙ sym (not_hash _ _ c.if-text-at-ne35.true c.if-text-at.false), kept)

pub returns-in-Ok : goal.returns-in-Ok
returns-in-Ok c kept = (sym (ap tag_res c.in-Ok.is) ∙ held _ c.playlist_tag.ensures c.in-Ok.is ∙ head_first _ _ c.if-text-at.false, kept)

pub returns : goal.returns
returns c kept =
    let rest = c.media_segment_tag.ensures kept in
    (rest.0 ∙ failed c.playlist_tag.ensures c.in_default.is ∙ head_first _ _ c.if-text-at.false, rest.1)
