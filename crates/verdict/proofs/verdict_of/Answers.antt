-- `verdict_of`: what `verdict_from` ensures behind the header. Assumes nothing.
use Rattle.verdict.specs.Calls.{verdict_of}
use Rattle.verdict.proofs.verdict_of.Goals as goal

pub returns : goal.returns
unfolding verdict_of
returns c = c.verdict_from.ensures
