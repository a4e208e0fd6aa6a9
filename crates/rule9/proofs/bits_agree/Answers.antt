-- `bits_agree`: the rule, at the words that were read. Assumes nothing.
use Rattle.rule9.proofs.bits_agree.Goals as goal

pub returns : goal.returns
returns c = rw (← c.clip_word-length.ensures, ← c.clip_word-bits.ensures, ← c.seconds_bits.ensures)
