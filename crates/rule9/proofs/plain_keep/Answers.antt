-- `plain_keep`: the rule, test by test, at the words that were read. Assumes nothing.
use Rattle.rule9.specs.Rule9.{plain_keep}
use Rattle.rule9.proofs.plain_keep.Goals as goal

pub returns : goal.returns
unfolding plain_keep
returns c = rw (← c.held_word-length.ensures, ← c.held_word-bits.ensures, ← c.seconds_bits-nearest.ensures, ← c.clip_span_fits-uri.ensures, ← c.clip_span_fits-title.ensures)
