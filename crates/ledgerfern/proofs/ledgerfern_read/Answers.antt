-- `ledgerfern_read`: the numbers of what the library's call ensures, and its tables. Assumes nothing.
use mathlib.Core.Path.{◌∙◌, ap}
use Rattle.ledgerfern.specs.Numbers.{read_numbers}
use Rattle.ledgerfern.proofs.ledgerfern_read.Goals as goal

pub returns : goal.returns
returns c =
    let p = c.parse_media_playlist.ensures in
    record { answered = c.from.ensures ∙ ap read_numbers p.answered; clips_after = p.clips_after; tags_after = p.tags_after }
