-- `range_at`: the rule at its flag, with the offset that was read. Assumes nothing.
use mathlib.Core.Path.{sym, ◌∙◌}
use Rattle.records.specs.Records.{range_at}
use Rattle.records.proofs.range_at.Goals as goal

pub returns-then-not-has_flag : goal.returns-then-not-has_flag
unfolding range_at
returns-then-not-has_flag c = rw (sym c.has_flag.ensures ∙ c.if-not-has_flag.true)

pub returns : goal.returns
unfolding range_at
returns c = rw (sym c.has_flag.ensures ∙ c.if-not-has_flag.false, c.offset_at-offset.ensures)
