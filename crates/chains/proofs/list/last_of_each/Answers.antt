-- `list::last_of_each`: the plain reading, or what `remembered` ensures from nothing held on. Assumes nothing.
use Prim.Native.Nat.{ℕ}
use mathlib.Core.Path.{refl, ◌∙◌, ap}
use lib.ListN.{length-replicate, length}
use Rattle.chains.proofs.Renewed.{last_of_each}
use Rattle.chains.proofs.list.last_of_each.Goals as goal

pub returns : goal.returns
returns c =
    λ t.
    let z = c.clear.ensures in
    let n = ap length z ∙ length-replicate {A = ℕ} _ 0 in
    let u = c.remembered.ensures (rw n t) (z ∙ rw n) in
    (last_of_each _ _ _ _ _ _ _ _ _ refl z u.0, rw n at u.1)
