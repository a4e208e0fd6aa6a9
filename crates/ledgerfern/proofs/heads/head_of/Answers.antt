-- `head_of`: a head's numbers give it, others none. Assumes nothing.
use mathlib.Core.Path.{sym, ap, ◌∙◌}
use mathlib.Core.Option.{some}
use Rattle.ledgerfern.specs.Heads.{head_of}
use Rattle.ledgerfern.proofs.heads.head_of.Goals as goal

pub returns-then-not-is_head : goal.returns-then-not-is_head
unfolding head_of
returns-then-not-is_head c = rw (sym c.is_head.ensures ∙ c.if-not-is_head.true)

pub returns : goal.returns
unfolding head_of
returns c = rw (sym c.is_head.ensures ∙ c.if-not-is_head.false) (ap some c.head_from.ensures)
