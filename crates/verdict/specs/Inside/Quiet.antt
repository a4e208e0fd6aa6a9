-- Bytes at which no line begins that says something: the verdict is the same from the byte behind them. Assumes nothing.
use Rattle.std.specs.Prelude.{ℕ, ◌+◌, Bool, not, ◌&&◌, ◌||◌, List, eqb, get_or}

-- by the byte and the two behind it: CR or LF; or a byte of a line, with none behind it that begins a tag and no CR alone
abbrev pub quiet : ℕ → ℕ → ℕ → Bool
quiet x y z = (eqb 13 x || eqb 10 x) || ((not (eqb 35 x) && not (eqb 35 y)) && (not (eqb 13 y) || eqb 10 z))

abbrev pub quiet_at : List ℕ → ℕ → Bool
quiet_at text j = quiet (get_or text j 0) (get_or text (j + 1) 0) (get_or text (j + 2) 0)
