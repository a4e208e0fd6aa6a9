-- `ledgerfern_cue_read`: the numbers of what the library's call ensures. Assumes nothing.
use mathlib.Core.Path.{◌∙◌, ap}
use Rattle.ledgerfern.specs.Numbers.{cue_numbers}
use Rattle.ledgerfern.proofs.ledgerfern_cue_read.Goals as goal

pub returns : goal.returns
returns c = c.from.ensures ∙ ap cue_numbers c.read.ensures
