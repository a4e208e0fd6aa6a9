-- `mark_from`: by cases. Assumes nothing.
use mathlib.Core.Path.{sym}
use native.Mathlib.Omega.{arith}
use Rattle.ledgerfern.proofs.HeadNumbers.{mark_more}
use Rattle.ledgerfern.proofs.heads.mark_from.Goals as goal

pub returns-in_default : goal.returns-in_default
returns-in_default c = sym (mark_more c.args.number (omega arith))
