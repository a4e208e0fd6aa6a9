-- `words::above_cr_end`: a byte that no mark is on ends no line. Assumes nothing.
use Rattle.words.proofs.Eight.{line_unmarked}
use Rattle.words.proofs.above_cr_end.Goals as goal

pub returns : goal.returns
returns c = c.unmarked_end.ensures _ (λ w f l e. line_unmarked w f e)
