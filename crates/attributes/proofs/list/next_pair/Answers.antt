-- `list::next_pair`: the blanks, then the pair. Assumes nothing.
use Rattle.attributes.specs.Pairs.{next_pair}
use Rattle.attributes.proofs.list.next_pair.Goals as goal

pub returns : goal.returns
unfolding next_pair
returns c = rw (← c.while_in.ensures) c.key_value_pair.ensures
