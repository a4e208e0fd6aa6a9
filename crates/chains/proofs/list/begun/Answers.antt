-- `list::begun`: the first pair, or none. Assumes nothing.
use Rattle.chains.proofs.Tests.{pair_behind, none_behind}
use Rattle.chains.proofs.Overlaid.{list_none}
use Rattle.chains.proofs.Renewed.{saved_true, parts_with}
use Rattle.chains.proofs.list.begun.Goals as goal

pub returns-in_default : goal.returns-in_default
returns-in_default c =
    λ t z.
    let tried = c.pair_at-tried.ensures.tried_pair t.fails in
    let none = none_behind _ _ _ c.while_in.ensures (rw c.in_default.is at tried.0) in
    (list_none _ _ _ _ _ none, rw c.save.ensures (saved_true _ _ _ _ c.requires _ (parts_with _ _ _ _ _ _ t tried.1)))

pub returns : goal.returns
returns c =
    λ t z.
    let tried = c.pair_at-tried.ensures.tried_pair t.fails in
    let read = pair_behind _ _ _ _ _ c.while_in.ensures (rw c.in-Ok.is at c.pair_at-tried.ensures.pair_ok) in
    c.begun_with.ensures (parts_with _ _ _ _ _ _ t tried.1) z _ read
