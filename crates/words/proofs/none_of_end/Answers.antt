-- `words::none_of_end`: the marks are those of the set. Assumes nothing.
use Rattle.words.proofs.none_of_end.Goals as goal

pub returns : goal.returns
returns g c = c.unmarked_end.ensures _ (λ w f l e. e)
