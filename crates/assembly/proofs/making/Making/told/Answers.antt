-- `Making::told` meets its contract: each arm by what the match tells of the tag, an EXTINF by what `timed` ensures, a range and a map by what their words
-- and flags are ensured to be. Assumes nothing.
use Rattle.assembly.proofs.making.Making.told.Goals as goal

pub returns-in-Timed : goal.returns-in-Timed
returns-in-Timed c = rw c.in-Timed.is c.timed.ensures

pub returns-in-Ranged : goal.returns-in-Ranged
returns-in-Ranged c = rw (c.in-Ranged.is, c.range_words-m.ensures, c.range_flags.ensures)

pub returns-in-Discontinuity : goal.returns-in-Discontinuity
returns-in-Discontinuity c = rw c.in-Discontinuity.is

pub returns-in-Mapped : goal.returns-in-Mapped
returns-in-Mapped c = rw (c.in-Mapped.is, c.map_words-m.ensures, c.map_flags.ensures)
