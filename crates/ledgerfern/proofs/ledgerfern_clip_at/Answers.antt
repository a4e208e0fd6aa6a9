-- `ledgerfern_clip_at`: the numbers of what the library's call ensures. Assumes nothing.
use mathlib.Core.Path.{◌∙◌, ap}
use Rattle.ledgerfern.specs.Numbers.{on_numbers}
use Rattle.ledgerfern.proofs.ledgerfern_clip_at.Goals as goal

pub returns : goal.returns
returns c = c.from.ensures ∙ ap on_numbers c.clip_at.ensures
