-- `blocks::is_in`: the answer so far is that of the bytes so far. Assumes nothing.
use Rattle.std.proofs.Common.{arith, refl}
use Rattle.blocks.proofs.Blocks.{one_on, one_out}
use Rattle.blocks.proofs.is_in.Goals as goal

pub loop-b-init : goal.loop-b-init
loop-b-init g c = refl

pub loop-b-preserved : goal.loop-b-preserved
loop-b-preserved g c = one_on c.args.x c.args.set.now c.loop-b.b-index _ (omega arith) c.loop-b.invariant

pub returns : goal.returns
returns g c = one_out c.args.x c.args.set.now c.loop-b.b-index _ (omega arith) c.loop-b.invariant
