-- `scan::is_one_of`: `contains` asks the same of each byte. Assumes nothing.
use Rattle.std.proofs.Common.{◌∙◌}
use Rattle.scan.proofs.Sets.{any}
use Rattle.scan.proofs.is_one_of.Goals as goal

pub returns : goal.returns
returns c = c.contains.ensures.value ∙ any c.args.set.now c.args.b
