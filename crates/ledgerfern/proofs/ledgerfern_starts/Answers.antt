-- `ledgerfern_starts`: the numbers of what the library's call ensures, and its table. Assumes nothing.
use mathlib.Core.Path.{◌∙◌, ap}
use Rattle.ledgerfern.specs.Numbers.{starts_numbers}
use Rattle.ledgerfern.proofs.ledgerfern_starts.Goals as goal

pub returns : goal.returns
returns c =
    let p = c.all_starts.ensures in
    record { answered = c.from.ensures ∙ ap starts_numbers p.answered; out_after = p.out_after }
