-- What a function asks that puts bytes without a test: they fit. Assumes nothing.
use Rattle.std.specs.Prelude.{ℕ, ◌+◌, ◌≤◌, List, length}

abbrev pub Room : List ℕ → ℕ → List ℕ → Type 0
Room out at bs = at + length bs ≤ length out
