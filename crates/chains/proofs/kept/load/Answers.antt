-- `kept::load`: each word as it stands, the two values as `held` reads them. Assumes nothing.
use native.Mathlib.Omega.{arith}
use mathlib.Core.Path.{◌∙◌}
use Rattle.chains.proofs.Words.{first_value, second_value}
use Rattle.chains.proofs.kept.load.Goals as goal

pub returns : goal.returns
returns c = rw (c.attr_at-value_2.ensures ∙ second_value _ (omega arith), c.attr_at-value.ensures ∙ first_value _ (omega arith))
