-- `list::is_named`: from here on it is one of the names just where it is one of all. Each turn passes a name. Assumes nothing.
use native.Mathlib.Omega.{arith}
use Prim.Native.Nat.{◌+◌, ◌-◌, ◌≤◌}
use mathlib.Core.Path.{◌≡◌, refl, sym, ◌∙◌}
use mathlib.Core.List.{◌∷◌}
use lib.ListN.{length, get_or, take, drop}
use Rattle.attributes.specs.Pairs.{words}
use Rattle.attributes.proofs.Words.{word_ends, words_next, words_out, named_out, named_here, named_on}
use Rattle.attributes.proofs.list.is_named.Goals as goal
use Rattle.attributes.proofs.list.is_named.Goals.{After-name_end-end}

pub loop-size-init : goal.loop-size-init
loop-size-init c = (refl, omega arith)

pub name_end-end-requires : goal.name_end-end-requires
name_end-end-requires c = c.loop-size.invariant.1

-- where the name here ends
ends : (c : After-name_end-end) →
    (c.loop-size.start ≤ c.name_end-end.result) × (c.name_end-end.result ≤ length c.args.names.now)
ends c =
    let a = c.args in
    word_ends a.names.now _ (get_or a.sizes.now c.loop-size.size-index 0) _ c.name_end-end.ensures c.loop-size.invariant.1

-- it, and those behind it
here : (c : After-name_end-end) →
    let a = c.args in
    let names = a.names.now in
    words (drop c.loop-size.start names) (drop c.loop-size.size-index a.sizes.now)
    ≡ take (c.name_end-end.result - c.loop-size.start) (drop c.loop-size.start names) ∷ words (drop c.name_end-end.result names) (drop (c.loop-size.size-index + 1) a.sizes.now)
here c = words_next _ _ _ _ c.name_end-end.ensures _ _ c.loop-size-test.true refl

pub slice_bounds-spells-count : goal.slice_bounds-spells-count
slice_bounds-spells-count c = (ends (goal.at.slice_bounds-spells-count c).After-name_end-end).0

pub returns-then-spells : goal.returns-then-spells
returns-then-spells c = sym (c.loop-size.invariant.0 ∙ named_here _ _ _ _ _ (here (goal.at.returns-then-spells c).After-name_end-end) (sym c.spells.ensures ∙ c.if-spells.true))

pub loop-size-preserved : goal.loop-size-preserved
loop-size-preserved c = (c.loop-size.invariant.0 ∙ named_on _ _ _ _ _ (here (goal.at.loop-size-preserved c).After-name_end-end) (sym c.spells.ensures ∙ c.if-spells.false), (ends (goal.at.loop-size-preserved c).After-name_end-end).1)

pub returns : goal.returns
returns c = sym (c.loop-size.invariant.0 ∙ named_out _ _ _ (words_out _ _ _ c.loop-size-test.false))
