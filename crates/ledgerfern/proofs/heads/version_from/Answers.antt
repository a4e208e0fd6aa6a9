-- `version_from`: by cases. Assumes nothing.
use mathlib.Core.Path.{sym}
use native.Mathlib.Omega.{arith}
use Rattle.ledgerfern.proofs.HeadNumbers.{version_more}
use Rattle.ledgerfern.proofs.heads.version_from.Goals as goal

pub returns-in_default : goal.returns-in_default
returns-in_default c = sym (version_more c.args.present c.args.version (omega arith))
