-- `failing::noted`: all names that begin within this one make no pair (`noted_true`). Assumes nothing.
use Rattle.chains.proofs.Tests.{noted_true}
use Rattle.chains.proofs.failing.noted.Goals as goal

pub returns-then-equals-text : goal.returns-then-equals-text
returns-then-equals-text c t b x = record { dead = noted_true _ _ _ x b c.until-equals.ensures; none = t.none }

pub returns : goal.returns
returns c t b x = record { dead = t.dead; none = noted_true _ _ _ x b c.until-equals.ensures }
