-- `State::put_tag` meets its contract: what is stored are the words that `tag_words` ensures, where the tag is kept. Assumes nothing.
use mathlib.Core.Path.{ap, ◌∙◌}
use borrow.Author.Tests.{lt-ltb, le-ltb}
use Rattle.tables.specs.Table.{tag_stored}
use Rattle.media.proofs.state.State.put_tag.Goals as goal

pub returns-then-met-kept : goal.returns-then-met-kept
returns-then-met-kept c = rw (lt-ltb _ _ c.if-met-kept.true) (c.store_tag.ensures ∙ ap (tag_stored _ _) c.tag_words-values.ensures)

pub returns-else-met-kept : goal.returns-else-met-kept
returns-else-met-kept c = rw (le-ltb _ _ c.if-met-kept.false)
