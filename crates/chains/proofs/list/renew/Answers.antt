-- `list::renew`: the words with the new chain in the place of one of the two. Assumes nothing.
use mathlib.Core.Path.{refl}
use Rattle.chains.proofs.Renewed.{renewed_first, renewed_second}
use Rattle.chains.proofs.list.renew.Goals as goal

pub returns-then-is_kept : goal.returns-then-is_kept
returns-then-is_kept c =
    λ text names t new.
    rw (c.lay.ensures, c.save.ensures) (renewed_second text names _ _ c.requires _ _ _ _ _ refl t new)

pub returns : goal.returns
returns c =
    λ text names t new.
    rw (c.lay-2.ensures, c.save-2.ensures) (renewed_first text names _ _ c.requires _ _ _ _ _ refl t new)
