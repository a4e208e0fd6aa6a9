-- `blocks::all_within`: the answer so far is that of the bytes so far. Assumes nothing.
use Rattle.std.proofs.Common.{arith, refl, ◌&&◌, leb}
use Rattle.blocks.proofs.Blocks.{all_on, all_out}
use Rattle.blocks.proofs.all_within.Goals as goal

pub loop-x-init : goal.loop-x-init
loop-x-init c = refl

pub loop-x-preserved : goal.loop-x-preserved
loop-x-preserved c = all_on (λ x. leb c.args.lo x && leb x c.args.hi) _ _ _ _ (omega arith) c.loop-x.invariant

pub returns : goal.returns
returns c = all_out (λ x. leb c.args.lo x && leb x c.args.hi) _ _ _ (omega arith) c.loop-x.invariant
