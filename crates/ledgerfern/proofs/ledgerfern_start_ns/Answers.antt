-- `ledgerfern_start_ns`: the numbers of what the library's call ensures. Assumes nothing.
use mathlib.Core.Path.{◌∙◌, ap}
use Rattle.ledgerfern.specs.Numbers.{value_numbers}
use Rattle.ledgerfern.proofs.ledgerfern_start_ns.Goals as goal

pub returns : goal.returns
returns c = c.from.ensures ∙ ap value_numbers c.start_ns.ensures
