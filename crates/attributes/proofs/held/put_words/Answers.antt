-- `held::put_words`: the two sides of the test. Assumes nothing.
use native.Mathlib.Omega.{arith}
use mathlib.Core.Path.{sym}
use lib.ListN.{length-set}
use Rattle.attributes.proofs.Laid.{stored_three, stored_not}
use Rattle.attributes.proofs.held.put_words.Goals as goal

pub bounds-held-first-then-number-held : goal.bounds-held-first-then-number-held
bounds-held-first-then-number-held c = simp length-set (omega arith)

pub bounds-held-first-then-number-held-2 : goal.bounds-held-first-then-number-held-2
bounds-held-first-then-number-held-2 c = simp length-set (omega arith)

pub returns-then-number-held : goal.returns-then-number-held
returns-then-number-held c = sym (stored_three _ _ (omega arith) _ _ _)

pub returns-else-number-held : goal.returns-else-number-held
returns-else-number-held c = sym (stored_not _ _ (omega arith) _)
