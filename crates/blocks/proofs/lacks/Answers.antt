-- `blocks::lacks`: the answer so far is that of the bytes so far. Assumes nothing.
use Rattle.std.proofs.Common.{arith, refl, not, eqb}
use Rattle.blocks.proofs.Blocks.{all_on, all_out}
use Rattle.blocks.proofs.lacks.Goals as goal

pub loop-x-init : goal.loop-x-init
loop-x-init c = refl

pub loop-x-preserved : goal.loop-x-preserved
loop-x-preserved c = all_on (λ x. not (eqb c.args.b x)) _ _ _ _ (omega arith) c.loop-x.invariant

pub returns : goal.returns
returns c = all_out (λ x. not (eqb c.args.b x)) _ _ _ (omega arith) c.loop-x.invariant
