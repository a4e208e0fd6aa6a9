-- `tag_at`: the record of the words that were read. Assumes nothing.
use Rattle.records.specs.Records.{tag_at}
use Rattle.records.proofs.tag_at.Goals as goal

pub returns : goal.returns
unfolding tag_at
returns c = rw (← c.tag_word-start.ensures, ← c.tag_word-end.ensures, ← c.tag_word-rest_start.ensures, ← c.tag_word-rest_end.ensures, c.part_at-rest.ensures)
