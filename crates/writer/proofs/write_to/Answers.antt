-- `write_to` meets its contract: refused, or the whole text has room. Assumes nothing.
use mathlib.Core.Path.{refl}
use Rattle.playlist.specs.Answers.{write_answer}
use Rattle.writer.proofs.Answered.{writes}
use Rattle.writer.proofs.write_to.Goals as goal

pub returns : goal.returns
returns c = writes write_answer _ _ _ _ _ _ _ _ c.in_ok-may_write.ensures c.whole.ensures refl
