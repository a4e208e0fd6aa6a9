-- `tag_keeps`: both spans, of the words that were read. Assumes nothing.
use mathlib.Core.Bool.{◌&&◌}
use Rattle.rule9.specs.Rule9.{tag_keeps}
use Rattle.rule9.proofs.tag_keeps.Goals as goal

pub returns : goal.returns
unfolding tag_keeps
returns c =
    rw (← c.tag_word-name_start.ensures, ← c.tag_word-name_end.ensures, ← c.tag_word-rest_start.ensures, ← c.tag_word-rest_end.ensures)
    (λ i. c.span_fits.ensures i && c.span_fits-2.ensures i)
