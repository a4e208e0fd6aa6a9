-- `range_keeps`: the rule, word by word. Assumes nothing.
use mathlib.Core.Bool.{◌&&◌}
use Rattle.rule9.specs.Rule9.{range_keeps}
use Rattle.rule9.proofs.range_keeps.Goals as goal

pub returns : goal.returns
unfolding range_keeps
returns c = λ text i. c.zero_without-length.ensures i && c.zero_without-offset.ensures i
