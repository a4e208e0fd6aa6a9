-- `list::walk`: the list from here on, with what is held, gives what the whole walk gives; and the other chain leads to its place here. Each pair brings the walk nearer to the text's end. Assumes nothing.
use mathlib.Core.Path.{◌≡◌, refl, sym, ◌∙◌, ap}
use lib.Dec.{eqb}
use borrow.Author.Tests.{eqb-true}
use Rattle.text.specs.Nom.{ok}
use Rattle.text.proofs.Laws.{and_left, and_right}
use Rattle.attributes.specs.Pairs.{next_pair}
use Rattle.attributes.specs.Answers.{pair_of}
use Rattle.attributes.proofs.Walk.{pairs_fall}
use Rattle.chains.specs.Inside.Answers.{chain_seen}
use Rattle.chains.proofs.Leads.{leads_none, leads_on}
use Rattle.chains.proofs.Overlaid.{list_none, list_step, inserted_length}
use Rattle.chains.proofs.Renewed.{list_joins}
use Rattle.chains.proofs.Tests.{pair_behind, none_behind}
use lib.ListN.{length}
use Rattle.chains.proofs.list.walk.Goals as goal
use Rattle.chains.proofs.list.walk.Goals.{In-Ok}

pub returns-then-follows-place : goal.returns-then-follows-place
returns-then-follows-place c =
    λ t k e.
    let l = c.loop-place in
    let a = c.args in
    let u = l.invariant.1.1 t in
    let both = c.if-follows-place.true in
    let follows = c.is_kept-follows.result in
    let kept = sym c.is_kept-follows.ensures ∙ and_left follows (eqb c.advance-place.result l.from) both in
    let place : c.advance-place.result ≡ l.from = eqb-true _ _ (and_right follows (eqb c.advance-place.result l.from) both) in
    let leads = leads_on _ _ _ _ l.invariant.0 c.advance-place.ensures in
    (u.1 _ _ (list_joins _ _ (chain_seen a.other) _ _ _ l.from k (rw place at leads) (e ∙ sym l.invariant.1.0) kept c.hold_later.ensures), u.0)

pub loop-place-init : goal.loop-place-init
loop-place-init c = (leads_none _ _, (refl, λ t. (t, λ end h l. l)))

-- the pair that was read
read : (c : In-Ok) →
    let l = c.loop-place in
    let a = c.args in
    next_pair a.text.now l.from ≡ ok (pair_of c.in-Ok.p) c.in-Ok.after
read c = pair_behind _ _ _ _ _ c.while_in.ensures (rw c.in-Ok.is at c.pair_at-tried.ensures.pair_ok)

pub loop-place-smaller : goal.loop-place-smaller
loop-place-smaller c = pairs_fall _ _ _ _ (read (goal.at.loop-place-smaller c).In-Ok)

pub loop-place-preserved : goal.loop-place-preserved
loop-place-preserved c =
    let l = c.loop-place in
    let i = c.insert.ensures in (
      leads_on _ _ _ _ l.invariant.0 c.advance-place.ensures,
      (
        ap length i ∙ inserted_length _ _ _ _ _ ∙ l.invariant.1.0,
        λ t. let u = l.invariant.1.1 t in
            ((c.pair_at-tried.ensures.tried_pair u.0).1, λ end h x. u.1 end h (list_step _ _ _ _ _ _ _ _ _ (read (goal.at.loop-place-preserved c).In-Ok) i x)),
      ),
    )

pub returns-in_default : goal.returns-in_default
returns-in_default c =
    λ t k e.
    let l = c.loop-place in
    let u = l.invariant.1.1 t in
    let tried = c.pair_at-tried.ensures.tried_pair u.0 in
    let none = none_behind _ l.from _ c.while_in.ensures (rw c.in_default.is at tried.0) in
    (u.1 _ _ (list_none _ _ l.from _ _ none), tried.1)
