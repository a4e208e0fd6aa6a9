-- `held::word`: the two sides of the test. Assumes nothing.
use native.Mathlib.Omega.{arith}
use mathlib.Core.Path.{sym}
use Rattle.attributes.proofs.Laid.{word_there, word_not}
use Rattle.attributes.proofs.held.word.Goals as goal

pub returns-then-number-held : goal.returns-then-number-held
returns-then-number-held c = sym (word_there _ _ (omega arith) _)

pub returns : goal.returns
returns c = sym (word_not _ _ (omega arith) _)
