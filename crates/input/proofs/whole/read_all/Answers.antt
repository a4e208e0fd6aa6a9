-- `read_all`: each read goes on where the one before stopped. Rests on `consumes_more`, `came_full`, `came_whole`. Assumes nothing.
use borrow.Author.Rules.{rules}
use Rattle.input.proofs.Came.{consumes_more, came_full, came_ended}
use Rattle.input.proofs.whole.read_all.Goals as goal

pub returns-in-Ok-eq0-clause-came : goal.returns-in-Ok-eq0-clause-came
returns-in-Ok-eq0-clause-came g c =
    let n = c.in-Ok-eq0.ensures.bytes in
    came_ended c.loop-count.count _ c.in-Ok-eq0.field-0 c.loop-count.text c.read.new.buf (search rules) (search rules) _ _ _
    c.in-Ok-eq0.field-0-test (search rules) c.loop-count.invariant.2 n.0 (n.1 c.in-Ok-eq0.field-0-test (search rules))

pub loop-count-preserved : goal.loop-count-preserved
loop-count-preserved g c = (
  search rules,
  search rules,
  consumes_more c.loop-count.count _ c.in-Ok.more c.loop-count.text c.read.new.buf (search rules) (search rules) _ _ _ c.loop-count.invariant.2 c.in-Ok.ensures.bytes.0,
)

pub returns-clause-came : goal.returns-clause-came
returns-clause-came g c = came_full _ _ c.loop-count.count c.loop-count.text (search rules) c.loop-count.invariant.2
