-- `blocks::all_in`: the answer so far is that of the bytes so far. Assumes nothing.
use Rattle.std.proofs.Common.{arith, refl, ◌∙◌, ap, ◌&&◌}
use Rattle.text.specs.Nom.{is_one_of}
use Rattle.blocks.proofs.Blocks.{all_on, all_out}
use Rattle.blocks.proofs.all_in.Goals as goal

pub loop-x-init : goal.loop-x-init
loop-x-init g c = refl

pub loop-x-preserved : goal.loop-x-preserved
loop-x-preserved g c = ap (λ b. c.loop-x.all && b) c.is_in-all.ensures ∙ all_on (is_one_of c.args.set.now) _ _ _ _ (omega arith) c.loop-x.invariant

pub returns : goal.returns
returns g c = all_out (is_one_of c.args.set.now) _ _ _ (omega arith) c.loop-x.invariant
