-- `Making::timed` meets its contract: each arm by what the match tells of the length, the title by what `part_words` ensures. Assumes nothing.
use Rattle.assembly.proofs.making.Making.timed.Goals as goal

pub returns-in-Ns : goal.returns-in-Ns
returns-in-Ns c = rw (c.in-Ns.is, c.part_words-m.ensures)

pub returns-in-TooManyDigits : goal.returns-in-TooManyDigits
returns-in-TooManyDigits c = rw c.in-TooManyDigits.is
