-- `chain::forward`: what is true of the chain at the beginning is true of the one here. Each pair brings it nearer to the text's end. Assumes nothing.
use mathlib.Core.Path.{◌≡◌, refl, sym, ◌∙◌, ap}
use Rattle.text.specs.Nom.{ok}
use Rattle.text.specs.Answers.{span_of}
use Rattle.attributes.specs.Pairs.{next_pair}
use Rattle.attributes.specs.Answers.{pair_of, pair_res, attr_of}
use Rattle.attributes.proofs.Walk.{pairs_fall}
use Rattle.chains.specs.Inside.Kept.{chain}
use Rattle.chains.proofs.Tests.{chain_on}
use Rattle.chains.proofs.chain.forward.Goals as goal
use Rattle.chains.proofs.chain.forward.Goals.{In-Ok}

-- the pair that was read
read : (c : In-Ok) →
    let l = c.loop-next in
    let a = c.args in
    next_pair a.text.now l.next ≡ ok (pair_of c.in-Ok.p) c.in-Ok.after
read c = sym c.next_pair.ensures ∙ ap pair_res c.in-Ok.is

pub loop-next-smaller : goal.loop-next-smaller
loop-next-smaller c = pairs_fall _ _ _ _ (read (goal.at.loop-next-smaller c).In-Ok)

pub loop-next-preserved : goal.loop-next-preserved
loop-next-preserved c =
    let l = c.loop-next in
    let on = chain_on _ (chain (span_of l.name) (attr_of l.value) l.next _) _ _ _ l.invariant.0 (read (goal.at.loop-next-preserved c).In-Ok) in
    (refl, λ names kept t. on names kept (l.invariant.1 names kept t))
