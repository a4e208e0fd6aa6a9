-- `head_from`: field by field, what is ensured of each. Assumes nothing.
use Rattle.ledgerfern.proofs.heads.head_from.Goals as goal

pub returns : goal.returns
returns c = cc
