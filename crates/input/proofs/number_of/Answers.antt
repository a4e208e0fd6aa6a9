-- `number_of`: eight bytes and their weights. Assumes nothing.
use Rattle.std.proofs.Common.{rules}
use Rattle.input.proofs.Laws.{eight_bytes}
use Rattle.input.proofs.number_of.Goals as goal

pub returns : goal.returns
returns c = search (rules, eight_bytes)
