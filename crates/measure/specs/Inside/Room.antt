-- What is left of a room after so many bytes, or that it is too short. Assumes nothing.
use Rattle.std.specs.Prelude.{ℕ, ◌+◌, ◌-◌, ◌≤◌, cond, leb, Option as Perhaps, None, Some}

pub data Room : Type 0 where
  left : ℕ → Room
  short : Room

unfoldable pub room_for : ℕ → ℕ → Room
room_for room n = cond (leb n room) (left (room - n)) short

-- at least that is left after n bytes: where nothing is said, nothing is known
abbrev pub Leaves : ℕ → ℕ → Room → Type 0
Leaves room n (left m) = n + m ≤ room
Leaves room n short = Unit {0}

-- what the code says of it
abbrev pub room_of : Perhaps ℕ → Room
room_of (Some n) = left n
room_of None = short
