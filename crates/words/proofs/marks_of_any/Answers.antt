-- `words::marks_of_any`: where no bit is, none of the bytes has left a mark. Assumes nothing.
use Rattle.std.proofs.Common.{arith}
use Rattle.words.proofs.Eight.{none_of_all, unmarked_on}
use Rattle.words.proofs.marks_of_any.Goals as goal

pub loop-b-init : goal.loop-b-init
loop-b-init g c k h e j n l = absurd (omega arith)

pub loop-b-preserved : goal.loop-b-preserved
loop-b-preserved g c = unmarked_on _ _ _ _ _ c.loop-b.invariant c.marks_of-found.ensures

pub returns : goal.returns
returns g c k h e = none_of_all _ _ (λ j n l. c.loop-b.invariant k h e j n (omega arith))
