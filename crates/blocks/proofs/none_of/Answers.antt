-- `blocks::none_of`: as long as the answer is yes, none of the bytes that were looked for is there. Assumes nothing.
use Rattle.std.proofs.Common.{arith, sym, ◌∙◌, ◌≡◌, true, not, eqb, get_or}
use Rattle.std.specs.List.{list_all}
use Rattle.text.proofs.Laws.{and_left, and_right}
use Rattle.text.proofs.Stretches.{more}
use Rattle.blocks.proofs.Blocks.{none_all}
use Rattle.blocks.proofs.none_of.Goals as goal

pub loop-b-init : goal.loop-b-init
loop-b-init g c e j h l = absurd (omega arith)

pub loop-b-preserved : goal.loop-b-preserved
loop-b-preserved g c e =
    let a = c.args in
    let n = c.loop-b.none in
    more (λ j. list_all (λ x. not (eqb (get_or a.set.now j 0) x)) a.block.now ≡ true) 0 c.loop-b.b-index (c.loop-b.invariant (and_left n _ e)) (sym c.lacks-none.ensures ∙ and_right n _ e)

pub returns : goal.returns
returns g c e = none_all c.args.set.now c.args.block.now (λ j l. c.loop-b.invariant e j (omega arith) (omega arith))
