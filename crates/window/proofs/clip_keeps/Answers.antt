-- `clip_keeps`: the flags and the span, of the words that were read. Assumes nothing.
use mathlib.Core.Bool.{◌&&◌}
use lib.Dec.{ltb}
use Rattle.tables.specs.Layout as layout
use Rattle.window.specs.Window.{clip_keeps}
use Rattle.window.proofs.clip_keeps.Goals as goal

pub returns : goal.returns
unfolding clip_keeps
returns c =
    rw (← c.clip_word-flags.ensures, ← c.clip_word-start.ensures, ← c.clip_word-end.ensures)
    (λ i. ltb c.clip_word-flags.result layout.flag_limit && c.span_fits.ensures i)
