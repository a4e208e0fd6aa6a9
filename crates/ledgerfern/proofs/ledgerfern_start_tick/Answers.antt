-- `ledgerfern_start_tick`: the numbers of what the library's call ensures. Assumes nothing.
use mathlib.Core.Path.{◌∙◌, ap}
use Rattle.ledgerfern.specs.Numbers.{value_numbers}
use Rattle.ledgerfern.proofs.ledgerfern_start_tick.Goals as goal

pub returns : goal.returns
returns c = c.from.ensures ∙ ap value_numbers c.start_tick.ensures
