-- `byte`: a byte that the buffer holds is its number. Assumes nothing.
use Rattle.std.proofs.Common.{rules}
use Rattle.input.specs.Numbers.{number_at}
use Rattle.input.proofs.Input.byte.Goals as goal

pub returns-clause-held : goal.returns-clause-held
unfolding number_at
returns-clause-held g c = λ h. let kept = c.fill.ensures.held h in search rules
