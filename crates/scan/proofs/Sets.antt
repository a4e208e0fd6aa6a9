-- A set of bytes, as the library's tests of a list tell of it. Assumes nothing.
use mathlib.Core.Path.{◌≡◌, refl, ap}
use mathlib.Core.Bool.{◌||◌}
use mathlib.Core.List.{List, [], ◌∷◌}
use Prim.Native.Nat.{ℕ}
use lib.Dec.{eqb}
use Rattle.std.specs.List.{list_any}
use Rattle.text.specs.Nom.{is_one_of}

pub any : (set : List ℕ) (b : ℕ) → list_any (λ y. eqb y b) set ≡ is_one_of set b
any [] b = refl
any (x ∷ set) b = ap (λ r. eqb x b || r) (any set b)
