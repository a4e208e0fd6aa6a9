-- Bytes as a number. Assumes nothing.
use Rattle.std.specs.Prelude.{ℕ, zero, suc, ◌+◌, ◌*◌, List, get_or}

-- so many bytes from a place on as a number, the lowest first
unfoldable pub number_at : ℕ → List ℕ → ℕ → ℕ
number_at zero buffer at = 0
number_at (suc n) buffer at = get_or buffer at 0 + 256 * number_at n buffer (at + 1)
