-- A number as bytes, and a mark on those of them that may end a line, or that are a given byte. Assumes nothing.
use Rattle.std.specs.Prelude.{ℕ, zero, suc, ◌/◌, ◌%◌, ◌<◌, Bool, true, get_or, cond, ◌≡◌, refl, List, [], ◌∷◌, map, ltb, eqb}
use Rattle.text.specs.Nom.{bytes}

-- so many bytes of a number, the lowest first
unfoldable pub bytes_of : ℕ → ℕ → List ℕ
bytes_of zero w = []
bytes_of (suc n) w = w % 256 ∷ bytes_of n (w / 256)

-- the highest bit of a byte where the byte is not above CR, else 0
unfoldable pub mark : ℕ → ℕ
mark b = cond (ltb b 14) 128 0

-- where it is the byte b
unfoldable pub mark_of : ℕ → ℕ → ℕ
mark_of b x = cond (eqb b x) 128 0

-- each byte of the word on which no mark is passes the test
abbrev pub Unmarked : (ℕ → Bool) → ℕ → ℕ → Type 0
Unmarked p word found = (k : ℕ) → k < 8 → get_or (bytes_of 8 found) k 0 ≡ 0 → p (get_or (bytes_of 8 word) k 0) ≡ true

-- ---- a number as bytes
lowest_first : bytes_of 4 0x620A0D61 ≡ bytes "a\r\nb"
unfolding bytes_of
lowest_first = refl

line_ends_marked : map mark (bytes "a\r\nb") ≡ 0 ∷ 128 ∷ 128 ∷ 0 ∷ []
unfolding mark
line_ends_marked = refl

equals_marked : map (mark_of 0x3D) (bytes "a=b") ≡ 0 ∷ 128 ∷ 0 ∷ []
unfolding mark_of
equals_marked = refl
