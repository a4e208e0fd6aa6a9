-- `ledgerfern_windows`: the numbers of what the library's call ensures, and its table. Assumes nothing.
use mathlib.Core.Path.{◌∙◌, ap}
use Rattle.ledgerfern.specs.Numbers.{windows_numbers}
use Rattle.ledgerfern.proofs.ledgerfern_windows.Goals as goal

pub returns : goal.returns
returns c =
    let p = c.all_windows.ensures in
    record { answered = c.from.ensures ∙ ap windows_numbers p.answered; out_after = p.out_after }
