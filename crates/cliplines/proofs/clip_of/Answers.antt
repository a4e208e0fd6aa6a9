-- `clip_of` meets its contract: by its words where they tell that it is plain, else as a clip. Assumes nothing.
use mathlib.Core.Path.{sym, ◌∙◌}
use Rattle.put.proofs.Putting.{puts_as}
use Rattle.cliplines.proofs.Words.{plain_text_lem}
use Rattle.cliplines.proofs.clip_of.Goals as goal

pub returns-then-is_plain : goal.returns-then-is_plain
returns-then-is_plain c =
    let a = c.args in
    puts_as (plain_text_lem a.text.now a.tags.now a.clips.now a.tag_count a.k (sym c.is_plain.ensures ∙ c.if-is_plain.true)) c.plain_clip.ensures
