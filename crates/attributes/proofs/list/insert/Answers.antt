-- `list::insert`: what is left of the names, done from here, is the whole. Each turn passes a name. Assumes nothing.
use native.Mathlib.Omega.{arith}
use Prim.Native.Nat.{◌+◌, ◌-◌, ◌≤◌}
use mathlib.Core.Path.{◌≡◌, refl, sym, ◌∙◌, ap}
use mathlib.Core.List.{◌∷◌}
use lib.ListN.{length, get_or, take, drop}
use Rattle.attributes.specs.Pairs.{words}
use Rattle.attributes.specs.Inside.Insert.{inserted_from}
use Rattle.attributes.specs.Answers.{pair_of}
use Rattle.attributes.proofs.Words.{word_ends, words_next, words_out}
use Rattle.attributes.proofs.Laid.{stored_length}
use Rattle.attributes.proofs.Inserted.{inserted_out, inserted_here, inserted_on}
use Rattle.attributes.proofs.list.insert.Goals as goal
use Rattle.attributes.proofs.list.insert.Goals.{then-spells, else-spells, After-name_end-end, Joined-spells}

pub loop-n-init : goal.loop-n-init
loop-n-init c = (refl, omega arith, refl)

pub name_end-end-requires : goal.name_end-end-requires
name_end-end-requires c = c.loop-n.invariant.1

-- where the name here ends
ends : (c : After-name_end-end) →
    (c.loop-n.start ≤ c.name_end-end.result) × (c.name_end-end.result ≤ length c.args.names.now)
ends c =
    let a = c.args in
    word_ends a.names.now _ (get_or a.sizes.now c.loop-n.n 0) _ c.name_end-end.ensures c.loop-n.invariant.1

-- it, and those behind it
here : (c : After-name_end-end) →
    let a = c.args in
    let names = a.names.now in
    words (drop c.loop-n.start names) (drop c.loop-n.n a.sizes.now)
    ≡ take (c.name_end-end.result - c.loop-n.start) (drop c.loop-n.start names) ∷ words (drop c.name_end-end.result names) (drop (c.loop-n.n + 1) a.sizes.now)
here c = words_next _ _ _ _ c.name_end-end.ensures _ _ c.loop-n-test.true refl

pub slice_bounds-spells-count : goal.slice_bounds-spells-count
slice_bounds-spells-count c = (ends (goal.at.slice_bounds-spells-count c).After-name_end-end).0

-- what is held after the name here
done : (c : Joined-spells) →
    let a = c.args in
    let text = a.text.now in
    let names = a.names.now in
    (inserted_from text (pair_of a.p) c.loop-n.n (words (drop c.loop-n.start names) (drop c.loop-n.n a.sizes.now)) c.loop-n.held
    ≡ inserted_from text (pair_of a.p) (c.loop-n.n + 1) (words (drop c.name_end-end.result names) (drop (c.loop-n.n + 1) a.sizes.now)) c.if-spells.held)
    × (length c.if-spells.held ≡ length c.loop-n.held)
    × (c.if-spells.start ≡ c.name_end-end.result)
done c =
    let next = words_next _ _ _ _ c.name_end-end.ensures _ _ c.loop-n-test.true refl in
    elim c.if-spells.branch [
      | then-spells w ↦
          let now-held = w.held-is ∙ w.put.ensures in
          (inserted_here _ _ _ _ _ _ _ _ next (sym c.spells.ensures ∙ w.if-spells.true) ∙ ap (inserted_from _ _ _ _) (sym now-held), ap length now-held ∙ stored_length _ _ _, w.start-is)
      | else-spells w ↦
          (inserted_on _ _ _ _ _ _ _ _ next (sym c.spells.ensures ∙ w.if-spells.false) ∙ ap (inserted_from _ _ _ _) (sym w.held-is), ap length w.held-is, w.start-is)
    ]

pub loop-n-preserved : goal.loop-n-preserved
loop-n-preserved c =
    let i = c.loop-n.invariant in
    let d = done (goal.at.loop-n-preserved c).Joined-spells in
    rw d.2 (i.0 ∙ d.0, (ends (goal.at.loop-n-preserved c).After-name_end-end).1, d.1 ∙ i.2)

pub shape_of-held : goal.shape_of-held
shape_of-held c = c.loop-n.invariant.2

pub returns : goal.returns
returns c = sym (c.loop-n.invariant.0 ∙ inserted_out _ _ _ _ _ _ (words_out _ _ _ c.loop-n-test.false))
