-- `list::begun_with`: the first pair, the walk behind it, and a chain of its own. Assumes nothing.
use mathlib.Core.Path.{ap, ◌∙◌}
use Rattle.attributes.specs.Pairs.{words}
use Rattle.chains.proofs.Overlaid.{list_step, inserted_length}
use Rattle.chains.proofs.Renewed.{chain_same, own_chain, held_length, parts_with}
use lib.ListN.{length}
use Rattle.chains.proofs.list.begun_with.Goals as goal

pub returns : goal.returns
returns c =
    λ t z at r.
    let a = c.args in
    let i = c.insert.ensures in
    let same = ap length i ∙ inserted_length _ _ _ _ _ in
    let w = c.walk_beside-walked.ensures (rw same t) in
    let l = list_step _ _ at _ _ _ _ _ _ r i w.0 in
    let n = held_length _ _ at _ _ _ z l in
    let parts = parts_with _ _ _ _ _ _ t w.1 in
    (l, rw n at (c.renew.ensures a.text.now (words a.names.now a.sizes.now) (rw n parts) (chain_same _ _ _ _ _ c.begun-own.ensures (own_chain _ _ at _ _ _ _ _ r z l))))
