-- The front of a fraction's digits, for who writes some of them at a turn. Assumes nothing.
use Rattle.std.specs.Prelude.{cond, List, [], ◌∷◌, ℕ, suc, zero, ◌+◌, ◌/◌, ◌%◌, ◌^◌, eqb}

-- the digits of f that k digits can write, the highest first, as long as something is left of them or stands behind them
unfoldable pub front_by : ℕ → ℕ → ℕ → List ℕ
front_by zero f behind = []
front_by (suc k) f behind = cond (eqb (f + behind) 0) [] ((48 + f / 10 ^ k) ∷ front_by k (f % 10 ^ k) behind)
