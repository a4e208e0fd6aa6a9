-- `first_step` meets its contract: it is where `multispace0` ends. Assumes nothing.
use Rattle.media.specs.Calls.{first_step}
use Rattle.media.proofs.reading.first_step.Goals as goal

pub returns : goal.returns
unfolding first_step
returns c = c.multispace0.ensures
