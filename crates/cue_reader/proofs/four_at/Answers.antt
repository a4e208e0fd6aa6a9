-- `four_at`: the four bytes and their weights. Rests on `four_bytes`. Assumes nothing.
use Rattle.std.proofs.Common.{rules}
use mathlib.Core.Path.{◌∙◌}
use Rattle.cue_reader.proofs.Numbers.{four_bytes}
use Rattle.cue_reader.proofs.four_at.Goals as goal

pub returns : goal.returns
returns c = (c.from.ensures ∙ (c.from_be_bytes.ensures ∙ four_bytes _ _), search rules)
