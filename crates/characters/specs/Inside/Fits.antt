-- A byte of a UTF-8 text, judged by the three before it. Assumes nothing.
use Rattle.std.specs.Prelude.{ℕ, ◌+◌, Bool, true, false, ◌&&◌, ◌||◌, not, cond, ◌≡◌, refl, List, [], ◌∷◌, leb, eqb, get_or}
use Rattle.std.proofs.Math.Bool.{xor}
use Rattle.text.specs.Utf8.{◌to◌, UTF8-tail, in_octet}

-- a tail is wanted behind c as a second byte, behind b as a third, behind a as a fourth
abbrev pub wanted : ℕ → ℕ → ℕ → Bool
wanted a b c = (leb 0xC2 c || leb 0xE0 b) || leb 0xF0 a

-- the first bytes E0, ED, F0 and F4 have narrower bounds for the second: d is not within them
abbrev pub wrong : ℕ → ℕ → Bool
wrong c d =
    (((eqb c 0xE0 && in_octet (0x80 to 0x9F) d) || (eqb c 0xED && not (in_octet (0x80 to 0x9F) d)))
    || (eqb c 0xF0 && in_octet (0x80 to 0x8F) d))
    || (eqb c 0xF4 && not (in_octet (0x80 to 0x8F) d))

-- the bytes that are in no row
abbrev pub never : ℕ → Bool
never d = in_octet (0xC0 to 0xC1) d || leb 0xF5 d

unfoldable pub fits : ℕ → ℕ → ℕ → ℕ → Bool
fits a b c d = (not (xor (in_octet UTF8-tail d) (wanted a b c)) && not (wrong c d)) && not (never d)

-- the byte behind the three at i
abbrev pub fits_at : List ℕ → ℕ → Bool
fits_at text i = fits (get_or text i 0) (get_or text (i + 1) 0) (get_or text (i + 2) 0) (get_or text (i + 3) 0)

-- where the character begins that is not whole within the three bytes at i, or else the place behind them
unfoldable pub last_start : List ℕ → ℕ → ℕ
last_start text i =
    cond (leb 0xC2 (get_or text (i + 2) 0)) (i + 2) (cond (leb 0xE0 (get_or text (i + 1) 0)) (i + 1) (cond (leb 0xF0 (get_or text i 0)) i (i + 3)))

-- ---- behind `ab` and a first byte
-- D7FF is the last before the surrogates: ED 9F BF
last_before_surrogates : fits 0x61 0x62 0xED 0x9F ≡ true
unfolding fits xor
last_before_surrogates = refl

no_surrogate : fits 0x61 0x62 0xED 0xA0 ≡ false
unfolding fits xor
no_surrogate = refl

no_overlong : fits 0x61 0x62 0xE0 0x9F ≡ false
unfolding fits xor
no_overlong = refl

-- a tail behind ASCII
lone_tail : fits 0x61 0x62 0x63 0x80 ≡ false
unfolding fits xor
lone_tail = refl

-- E3 wants two tails
two_tails : fits 0x62 0xE3 0x81 0x61 ≡ false
unfolding fits xor
two_tails = refl

-- ---- the last start
begun : last_start (0x61 ∷ 0xE3 ∷ 0x81 ∷ 0x82 ∷ []) 0 ≡ 1
unfolding last_start
begun = refl

all_whole : last_start (0xE3 ∷ 0x81 ∷ 0x82 ∷ 0x61 ∷ []) 0 ≡ 3
unfolding last_start
all_whole = refl
