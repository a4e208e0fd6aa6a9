-- `two_at`: the two bytes and their weights. Rests on `two_bytes`. Assumes nothing.
use Rattle.std.proofs.Common.{rules}
use mathlib.Core.Path.{◌∙◌}
use Rattle.cue_reader.proofs.Numbers.{two_bytes}
use Rattle.cue_reader.proofs.two_at.Goals as goal

pub returns : goal.returns
returns c = (c.from.ensures ∙ (c.from_be_bytes.ensures ∙ two_bytes _ _), search rules)
