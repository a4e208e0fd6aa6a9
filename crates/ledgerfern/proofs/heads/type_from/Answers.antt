-- `type_from`: by cases. Assumes nothing.
use mathlib.Core.Path.{sym}
use native.Mathlib.Omega.{arith}
use Rattle.ledgerfern.proofs.HeadNumbers.{type_more}
use Rattle.ledgerfern.proofs.heads.type_from.Goals as goal

pub returns-in-1 : goal.returns-in-1
returns-in-1 c = rw c.in-1.is

pub returns-in-2 : goal.returns-in-2
returns-in-2 c = rw c.in-2.is

pub returns-in_default : goal.returns-in_default
returns-in_default c = sym (type_more c.args.number c.args.start c.args.end (omega arith))
