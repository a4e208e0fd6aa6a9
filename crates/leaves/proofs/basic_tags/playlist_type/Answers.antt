-- `basic_tags::playlist_type`: each way out is the tests on the way, in the rule's order. Assumes nothing.
use borrow.Author.Tests.{lt-ltb, le-ltb}
use Rattle.text.specs.BasicTags.{playlist_type}
use Rattle.leaves.proofs.basic_tags.playlist_type.Goals as goal

pub returns-then-end-at : goal.returns-then-end-at
unfolding playlist_type
returns-then-end-at c = rw (← c.line_end-end.ensures, le-ltb _ _ c.if-end-at.true)

pub returns-then-text-end : goal.returns-then-text-end
unfolding playlist_type
returns-then-text-end c = rw (← c.line_end-end.ensures, lt-ltb _ _ c.if-end-at.false, le-ltb _ _ c.if-text-end.true)

pub returns : goal.returns
unfolding playlist_type
returns c = rw (← c.line_end-end.ensures, lt-ltb _ _ c.if-end-at.false, lt-ltb _ _ c.if-text-end.false, ← c.from_str.ensures)
