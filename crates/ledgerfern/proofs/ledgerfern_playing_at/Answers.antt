-- `ledgerfern_playing_at`: the numbers of what the library's call ensures. Assumes nothing.
use mathlib.Core.Path.{◌∙◌, ap}
use Rattle.ledgerfern.specs.Numbers.{playing_numbers}
use Rattle.ledgerfern.proofs.ledgerfern_playing_at.Goals as goal

pub returns : goal.returns
returns c = c.from.ensures ∙ ap playing_numbers c.playing_at.ensures
