-- `range_lines` meets its contract: by its flags there is no line, one with an offset, or one without. Assumes nothing.
use mathlib.Core.Path.{sym, ◌∙◌}
use Rattle.put.proofs.Putting.{puts_as, puts_none}
use Rattle.cliplines.proofs.Words.{range_none, range_there}
use Rattle.cliplines.proofs.plain.range_lines.Goals as goal

pub returns-then-not-has_flag : goal.returns-then-not-has_flag
returns-then-not-has_flag c = puts_as (sym (range_none _ _ _ (sym c.has_flag.ensures ∙ c.if-not-has_flag.true))) puts_none

pub returns : goal.returns
returns c = puts_as (range_there _ _ _ (sym c.has_flag.ensures ∙ c.if-not-has_flag.false) c.has_flag-2.ensures c.then_some-offset.ensures) c.range_line.ensures
