-- `is_type`: the rule itself. Assumes nothing.
use mathlib.Core.Path.{refl}
use Rattle.ledgerfern.specs.Heads.{is_type}
use Rattle.ledgerfern.proofs.heads.is_type.Goals as goal

pub returns : goal.returns
unfolding is_type
returns c = refl
