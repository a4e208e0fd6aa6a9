-- `ledgerfern_cue_write`: the numbers of what the library's call ensures, and its output. Assumes nothing.
use mathlib.Core.Path.{◌∙◌, ap}
use Rattle.ledgerfern.specs.Numbers.{written_numbers}
use Rattle.ledgerfern.proofs.ledgerfern_cue_write.Goals as goal

pub returns : goal.returns
returns c =
    let p = c.write.ensures in
    record { answered = c.from.ensures ∙ ap written_numbers p.answered; out_after = p.out_after }
