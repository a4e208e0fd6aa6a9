-- `only_with`: both flags, as they were read. Assumes nothing.
use mathlib.Core.Bool.{not, ◌||◌}
use Rattle.rule9.proofs.only_with.Goals as goal

pub returns : goal.returns
returns c = λ i. not (c.has_flag.ensures i) || c.has_flag-2.ensures i
