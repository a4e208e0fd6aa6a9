-- `clip_span_fits`: the span of the words that were read. Assumes nothing.
use Rattle.rule9.proofs.clip_span_fits.Goals as goal

pub returns : goal.returns
returns c = rw (← c.held_word-from.ensures, ← c.held_word-to.ensures) c.span_fits.ensures
