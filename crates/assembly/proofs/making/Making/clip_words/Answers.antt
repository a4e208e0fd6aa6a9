-- `Making::clip_words` meets its contract: the words stand in the order of the record. Three bytes of flags add up to less than a word holds.
-- Assumes nothing.
use Rattle.assembly.proofs.making.Making.clip_words.Goals as goal

pub returns : goal.returns
returns c = rw c.seconds_bits-bits.ensures
