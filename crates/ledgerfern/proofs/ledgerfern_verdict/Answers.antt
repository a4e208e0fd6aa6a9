-- `ledgerfern_verdict`: the numbers of what the library's call ensures. Assumes nothing.
use mathlib.Core.Path.{◌∙◌, ap}
use Rattle.ledgerfern.specs.Numbers.{verdict_numbers}
use Rattle.ledgerfern.proofs.ledgerfern_verdict.Goals as goal

pub returns : goal.returns
returns c = c.from.ensures ∙ ap verdict_numbers c.is_master_playlist.ensures
