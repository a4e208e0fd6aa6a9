-- `lines::one_of_three`: what `either` and `or_named` ensure, in turn. Assumes nothing.
use Rattle.verdict.proofs.lines.one_of_three.Goals as goal

pub returns : goal.returns
returns c = rw c.either-found.ensures at c.or_named.ensures
