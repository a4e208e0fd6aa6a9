-- `put_clip` meets its contract: what is stored are the words that `clip_words` ensures. Assumes nothing.
use mathlib.Core.Path.{ap, ◌∙◌}
use Rattle.tables.specs.Table.{clip_stored}
use Rattle.media.proofs.state.State.put_clip.Goals as goal

pub returns : goal.returns
returns c = c.store_clip.ensures ∙ ap (clip_stored _ _) c.clip_words-values.ensures
