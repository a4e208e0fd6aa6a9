-- `chain::advance`: the list at the beginning leads to the place here. Each pair brings it nearer to the text's end. Assumes nothing.
use mathlib.Core.Path.{◌≡◌, sym, ◌∙◌, ap}
use Rattle.text.specs.Nom.{ok}
use Rattle.attributes.specs.Pairs.{next_pair}
use Rattle.attributes.specs.Answers.{pair_of, pair_res}
use Rattle.attributes.proofs.Walk.{pairs_fall}
use Rattle.chains.proofs.Leads.{leads_none, leads_step, leads_on}
use Rattle.chains.proofs.chain.advance.Goals as goal
use Rattle.chains.proofs.chain.advance.Goals.{In-Ok}

pub loop-place-init : goal.loop-place-init
loop-place-init c = leads_none _ _

-- the pair that was read
read : (c : In-Ok) →
    let l = c.loop-place in
    let a = c.args in
    next_pair a.text.now l.place ≡ ok (pair_of c.in-Ok.field-0-0) c.in-Ok.after
read c = sym c.next_pair.ensures ∙ ap pair_res c.in-Ok.is

pub loop-place-smaller : goal.loop-place-smaller
loop-place-smaller c = pairs_fall _ _ _ _ (read (goal.at.loop-place-smaller c).In-Ok)

pub loop-place-preserved : goal.loop-place-preserved
loop-place-preserved c = leads_on _ _ _ _ c.loop-place.invariant (leads_step _ _ _ _ (read (goal.at.loop-place-preserved c).In-Ok))
