-- `ledgerfern_window`: the numbers of what the library's call ensures. Assumes nothing.
use mathlib.Core.Path.{◌∙◌, ap}
use Rattle.ledgerfern.specs.Numbers.{window_numbers}
use Rattle.ledgerfern.proofs.ledgerfern_window.Goals as goal

pub returns : goal.returns
returns c = c.from.ensures ∙ ap window_numbers c.window.ensures
