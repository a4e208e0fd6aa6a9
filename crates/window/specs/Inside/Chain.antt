-- Back from a clip, the nearest whose window does not ask for the clip before: it has an offset, or no range. The first clip where there is no such one.
-- Assumes nothing.
use Rattle.std.specs.Prelude.{Bool, not, cond, ◌&&◌, List, ℕ, zero, suc}
use Rattle.window.specs.Window.{is_sub_range, has_o}

-- its range has no offset
abbrev pub goes_on : List ℕ → ℕ → Bool
goes_on t clip = is_sub_range t clip && not (has_o t clip)

unfoldable pub chain_start : List ℕ → ℕ → ℕ
chain_start t zero = 0
chain_start t (suc k) = cond (goes_on t (suc k)) (chain_start t k) (suc k)
