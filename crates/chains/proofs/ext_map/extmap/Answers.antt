-- `ext_map::extmap`: the rule by what is held under two names (`map_by_held`). Assumes nothing.
use native.Mathlib.Omega.{arith}
use mathlib.Core.Path.{refl, sym, ◌∙◌}
use Rattle.attributes.proofs.Walk.{map_by_held}
use Rattle.chains.proofs.ext_map.extmap.Goals as goal

pub returns : goal.returns
returns c =
    λ t.
    let u = c.last_of_each-end.ensures t in
    (c.map_held.ensures ∙ sym (map_by_held _ _ _ _ u.0 (omega arith) refl refl), u.1)
