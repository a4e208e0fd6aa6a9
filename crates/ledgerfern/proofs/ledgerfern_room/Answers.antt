-- `ledgerfern_room`: the numbers of what the library's call ensures. Assumes nothing.
use mathlib.Core.Path.{◌∙◌, ap}
use Rattle.ledgerfern.specs.Numbers.{room_numbers}
use Rattle.ledgerfern.proofs.ledgerfern_room.Goals as goal

pub returns : goal.returns
returns c = c.from.ensures ∙ ap room_numbers c.room.ensures
