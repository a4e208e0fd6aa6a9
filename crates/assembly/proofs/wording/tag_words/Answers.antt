-- `tag_words` meets its contract: the rest is what `part_words` ensures. Assumes nothing.
use Rattle.assembly.specs.Words.{tag_words_of}
use Rattle.assembly.proofs.wording.tag_words.Goals as goal

pub returns : goal.returns
unfolding tag_words_of
returns c = rw (← c.part_words-rest.ensures)
