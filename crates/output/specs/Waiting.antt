-- What waits in an output buffer, byte for byte. Assumes nothing.
use Rattle.std.specs.Prelude.{cond, ◌&&◌, List, [], ◌∷◌, ◌++◌, ℕ, ◌-◌, ltb, leb, length, take, drop}

abbrev pub room : ℕ
room = 65536

-- one byte more: a full buffer is written out first
unfoldable pub with_byte : List ℕ → ℕ → List ℕ
with_byte waits b = cond (ltb (length waits) room) (waits ++ b ∷ []) (b ∷ [])

unfoldable pub with_bytes : List ℕ → List ℕ → List ℕ
with_bytes waits [] = waits
with_bytes waits (b ∷ bs) = with_bytes (with_byte waits b) bs

-- the bytes from start to end, none where the text has no such part
unfoldable pub part : List ℕ → ℕ → ℕ → List ℕ
part text start end = cond (leb end (length text) && leb start end) (take (end - start) (drop start text)) []
