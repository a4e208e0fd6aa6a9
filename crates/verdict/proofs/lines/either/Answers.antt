-- `lines::either`: what `named` and `or_named` ensure, in turn. Assumes nothing.
use Rattle.verdict.proofs.lines.either.Goals as goal

pub returns : goal.returns
returns c = rw c.named.ensures at c.or_named.ensures
