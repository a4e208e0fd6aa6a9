-- `words::unmarked_end`: the run goes on past each word, up to the first byte that is marked. Assumes nothing.
use Rattle.std.proofs.Common.{◌∙◌, arith}
use Rattle.words.proofs.Eight.{run_to_mark, run_past_word}
use Rattle.words.proofs.unmarked_end.Goals as goal

pub returns-then-found-ne0 : goal.returns-then-found-ne0
returns-then-found-ne0 g c p h = c.loop-i.invariant p h ∙ run_to_mark p _ _ _ _ (omega arith) c.word_at.ensures (h _ _ (omega arith) c.marks-found.ensures)

pub loop-i-preserved : goal.loop-i-preserved
loop-i-preserved g c p h = c.loop-i.invariant p h ∙ run_past_word p _ _ _ _ (omega arith) c.word_at.ensures (h _ _ (omega arith) c.marks-found.ensures) c.if-found-ne0.false
