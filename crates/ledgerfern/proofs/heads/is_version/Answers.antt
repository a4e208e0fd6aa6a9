-- `is_version`: the rule itself, with what `is_mark` ensures. Assumes nothing.
use Rattle.ledgerfern.specs.Heads.{is_version}
use Rattle.ledgerfern.proofs.heads.is_version.Goals as goal

pub returns : goal.returns
unfolding is_version
returns c = rw c.is_mark.ensures
