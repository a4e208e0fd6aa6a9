-- `map_at`: the rule at its flag, with the spans and the range that were read. Assumes nothing.
use mathlib.Core.Path.{sym, ◌∙◌}
use Rattle.records.specs.Records.{map_at}
use Rattle.records.proofs.map_at.Goals as goal

pub returns-then-not-has_flag : goal.returns-then-not-has_flag
unfolding map_at
returns-then-not-has_flag c = rw (sym c.has_flag.ensures ∙ c.if-not-has_flag.true)

pub returns : goal.returns
unfolding map_at
returns c = rw (sym c.has_flag.ensures ∙ c.if-not-has_flag.false, c.range_at-byte_range.ensures, c.clip_span-uri.ensures, c.clip_span-list.ensures)
