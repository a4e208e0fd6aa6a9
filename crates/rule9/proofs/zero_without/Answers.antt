-- `zero_without`: the flag, or the word, as they were read. Assumes nothing.
use Rattle.rule9.proofs.zero_without.Goals as goal

pub returns : goal.returns
returns c = rw (← c.held_word-flags.ensures, ← c.held_word-word.ensures, ← c.has_flag.ensures)
