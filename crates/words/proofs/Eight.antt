-- Laws of a number's bytes: how a text's bytes become one, what is marked in each of them, and which of them stand below its lowest bit.
-- Assumes nothing.
use mathlib.Core.Path.{◌≡◌, refl, sym, ◌∙◌, ap, subst}
use mathlib.Core.Bool.{Bool, true, false, ◌&&◌, cond}
use mathlib.Core.List.{List, [], ◌∷◌, map}
use Prim.Native.Nat.{ℕ, zero, suc, ◌+◌, ◌-◌, ◌*◌, ◌/◌, ◌%◌, ◌^◌, ◌≤◌, ◌<◌, zero-le, suc-le-suc}
use native.Mathlib.Nat.{suc-add, zero-add, mod-one, div-one, mod-lt, div-add-mod', div-div-eq-div-mul, pow-suc, le_of_suc-le-suc, not-suc-le-zero, zero-lt-suc}
use native.Mathlib.Numerals.{add-one, one-add}
use native.Mathlib.Decide.{dec_le}
use native.Mathlib.Omega.{arith}
use lib.Dec.{lit<, ltb, eqb}
use lib.Arith.{digits_div, digits_mod}
use lib.Pow.{mod-pow-add, shr-shr}
use lib.Bits.{bit_and, bit_or, bit_xor, and_block, or_block, xor_block, and_le_l, and_le_r, or_lt, xor_lt, or_mod, or_shr, or_add_and, xor_add_and, xor_self, xor_zero_r}
use lib.Count.{under, count_trailing_zeros, trailing_le}
use lib.ListN.{length, take, drop, get_or, get_or-map, get_or-eq_default, length-drop, length-take}
use lib.Seq.{drop-cons, get_or-take, get_or-drop}
use borrow.Author.Tests.{eqb-true, eqb-false, ne_eqb, ltb-false}
use Rattle.std.specs.Int.{bytes_low_first, byte_at, from_le_bytes}
use Rattle.std.proofs.lemmas.Nat.{le_bytes_8}
use Rattle.std.proofs.Common.{w64}
use Rattle.text.specs.Nom.{bytes, is_none_of, run_end}
use Rattle.words.specs.Inside.Word.{bytes_of, mark, mark_of, Unmarked}
use Rattle.text.proofs.Laws.{and_left, and_right}
use Rattle.text.proofs.Stretches.{All, Passes, more, run_on}

-- within a text it does not matter what is read past its end
any_default : (text : List ℕ) (j d e : ℕ) → j < length text → get_or text j d ≡ get_or text j e
any_default text j d e h = cc (drop-cons text j d h, drop-cons text j e h)

-- one more byte below the others
bytes_below : (n w b : ℕ) → b < 256 → bytes_of (suc n) (w * 256 + b) ≡ b ∷ bytes_of n w
unfolding bytes_of
bytes_below n w b h = rw (digits_mod w h, digits_div w h)

-- ---- the words of a text
-- the bytes of a number from the i-th on, as the library writes them
low_bytes : (n i w : ℕ) → bytes_of n (w / 256 ^ i) ≡ bytes_low_first i n w
unfolding bytes_of
low_bytes zero i w = refl
low_bytes (suc n) i w = cc (byte i, ap (bytes_of n) (div-div-eq-div-mul w (256 ^ i) 256 ∙ ap (λ (x : ℕ). w / x) (sym (pow-suc 256 i))), low_bytes n (suc i) w)
  where
    byte : (i : ℕ) → w / 256 ^ i % 256 ≡ byte_at i w
    byte zero = ap (λ (x : ℕ). x % 256) (div-one w)
    byte (suc i) = refl

-- a word holds the bytes of the text at its place
abbrev pub Holds : List ℕ → ℕ → ℕ → Type 0
Holds text w i = bytes_of 8 w ≡ take 8 (drop i text)

-- as one does that is read of these bytes
pub read_word : (text : List ℕ) (i w : ℕ) (bs : List ℕ) → ((j : ℕ) → get_or text j 0 < 256) → i + 8 ≤ length text → bs ≡ take (i + 8 - i) (drop i text) → w ≡ from_le_bytes w64 bs → Holds text w i
read_word text i w bs small h f e =
    let eight : i + 8 - i ≡ 8 = omega arith in
    let part : bs ≡ take 8 (drop i text) = f ∙ ap (λ (n : ℕ). take n (drop i text)) eight in
    let len : length (take 8 (drop i text)) ≡ 8 = omega (arith, length-take 8 (drop i text), length-drop i text) in
    ap (bytes_of 8) (sym (div-one w)) ∙ low_bytes 8 0 w ∙ le_bytes_8 (take 8 (drop i text)) w len byte (e ∙ ap (from_le_bytes w64) part)
  where
    byte : (j : ℕ) → get_or (take 8 (drop i text)) j 0 < 256
    byte j = go (dec_le 8 j)
      where
        go : Dec (8 ≤ j) → get_or (take 8 (drop i text)) j 0 < 256
        go (yes l) = rw (get_or-eq_default (take 8 (drop i text)) 0 {n = j} (omega (arith, length-take 8 (drop i text)))) (lit< tt)
        go (no l) = rw (get_or-take 8 (drop i text) j 0 (omega arith), get_or-drop i text j 0) (small (i + j))

-- ---- the marks of n bytes at once
-- n times the same byte
unfoldable pub repeated : ℕ → ℕ → ℕ
repeated zero b = 0
repeated (suc n) b = repeated n b * 256 + b

-- t takes the bytes that get no mark to the highest bit
unfoldable pub marked : ℕ → ℕ → ℕ → ℕ
unfolding repeated
marked t n w = repeated n 128 - bit_and (bit_or (bit_and w (repeated n 127) + repeated n t) w) (repeated n 128)

-- each number below n passes
each : (ℕ → Bool) → ℕ → Bool
each p zero = true
each p (suc n) = p n && each p n

each_at : (p : ℕ → Bool) (n b : ℕ) → each p n ≡ true → b < n → p b ≡ true
unfolding each
each_at p zero b e h = absurd (not-suc-le-zero h)
each_at p (suc n) b e h = go (each_at p n b (and_right (p n) _ e)) (dec_le n b)
  where
    go : (b < n → p b ≡ true) → Dec (n ≤ b) → p b ≡ true
    go f (yes l) = let z : n ≡ b = omega arith in subst (λ k. p k ≡ true) z (and_left (p n) _ e)
    go f (no l) = f (omega arith)

marked_small : (t b : ℕ) → marked t 1 b < 256
unfolding marked
marked_small t b = omega arith

module _ (t : ℕ) (within : t ≤ 128) where
  -- no byte reaches into the next
  marked_step : (n q b : ℕ) → b < 256 → marked t (suc n) (q * 256 + b) ≡ marked t n q * 256 + marked t 1 b
  unfolding marked repeated
  marked_step n q b h =
      let high = bit_and q (repeated n 127) + repeated n t in
      let low = bit_and b 127 + t in
      let small : low < 256 = omega (arith, and_le_r b 127) in
      let sum : bit_and (q * 256 + b) (repeated n 127 * 256 + 127) + (repeated n t * 256 + t) ≡ high * 256 + low
      = omega (arith, and_block 8 q (repeated n 127) b 127 h (lit< tt)) in
      let both : bit_or (high * 256 + low) (q * 256 + b) ≡ bit_or high q * 256 + bit_or low b = or_block 8 high q low b small h in
      let top : bit_and (bit_or high q * 256 + bit_or low b) (repeated n 128 * 256 + 128) ≡ bit_and (bit_or high q) (repeated n 128) * 256 + bit_and (bit_or low b) 128
      = and_block 8 (bit_or high q) (repeated n 128) (bit_or low b) 128 (or_lt 8 low b small h) (lit< tt) in
      let last : marked t 1 b ≡ 128 - bit_and (bit_or low b) 128 = ap (λ (x : ℕ). 128 - bit_and (bit_or (bit_and b 127 + x) b) 128) (zero-add t) in
      let apart : repeated n 128 * 256 + 128 - (bit_and (bit_or high q) (repeated n 128) * 256 + bit_and (bit_or low b) 128)
      ≡ (repeated n 128 - bit_and (bit_or high q) (repeated n 128)) * 256 + (128 - bit_and (bit_or low b) 128)
      = omega (arith, and_le_r (bit_or high q) (repeated n 128), and_le_r (bit_or low b) 128) in
      rw (sum, both, top) (apart ∙ ap (λ (x : ℕ). marked t n q * 256 + x) (sym last))

  -- the marks of all bytes, once the bits of c are taken out of each
  module _ (c : ℕ) (byte : c < 256) (m : ℕ → ℕ) (one : (b : ℕ) → b < 256 → marked t 1 (bit_xor b c) ≡ m b) where
    pub marked_bytes : (n w : ℕ) → bytes_of n (marked t n (bit_xor w (repeated n c))) ≡ map m (bytes_of n w)
    unfolding bytes_of repeated
    marked_bytes zero w = refl
    marked_bytes (suc n) w =
        let q = w / 256 in
        let b = w % 256 in
        let small : b < 256 = mod-lt w (zero-lt-suc 255) in
        let left : bit_xor (q * 256 + b) (repeated n c * 256 + c) ≡ bit_xor q (repeated n c) * 256 + bit_xor b c = xor_block 8 q (repeated n c) b c small byte in
        ap (λ x. bytes_of (suc n) (marked t (suc n) (bit_xor x (repeated n c * 256 + c)))) (sym (div-add-mod' w 256))
        ∙ ap (λ x. bytes_of (suc n) (marked t (suc n) x)) left
        ∙ ap (bytes_of (suc n)) (marked_step n (bit_xor q (repeated n c)) (bit_xor b c) (xor_lt 8 b c small byte))
        ∙ bytes_below n (marked t n (bit_xor q (repeated n c))) (marked t 1 (bit_xor b c)) (marked_small t (bit_xor b c))
        ∙ rw (one b small, marked_bytes n q)

-- one byte: all 256 are tried
above_cr_marked : (b : ℕ) → b < 256 → marked 114 1 b ≡ mark b
unfolding mark marked each
above_cr_marked b h = eqb-true _ _ (each_at (λ k. eqb (marked 114 1 k) (mark k)) 256 b refl h)

zero_marked : (b : ℕ) → b < 256 → marked 127 1 b ≡ cond (eqb b 0) 128 0
unfolding marked each
zero_marked b h = eqb-true _ _ (each_at (λ k. eqb (marked 127 1 k) (cond (eqb k 0) 128 0)) 256 b refl h)

-- nothing is left of a byte without the bits of c just where it is c
xor_zero : (b c : ℕ) → eqb (bit_xor b c) 0 ≡ eqb c b
xor_zero b c = go (eqb c b) refl
  where
    go : (t : Bool) → eqb c b ≡ t → eqb (bit_xor b c) 0 ≡ t
    go true e = rw (eqb-true c b e, xor_self b)
    go false e = ne_eqb (bit_xor b c) 0 (λ z. eqb-false c b e (omega (arith, z, xor_add_and b c, and_le_l b c, and_le_r b c)))

byte_marked : (c : ℕ) → c < 256 → (b : ℕ) → b < 256 → marked 127 1 (bit_xor b c) ≡ mark_of c b
unfolding mark_of
byte_marked c h b l = zero_marked (bit_xor b c) (xor_lt 8 b c l h) ∙ rw (xor_zero b c)

-- the marks of eight bytes: of those that are not above CR, and of those that are c
pub marks_bytes : (w : ℕ) → bytes_of 8 (marked 114 8 w) ≡ map mark (bytes_of 8 w)
unfolding repeated
marks_bytes w = ap (λ x. bytes_of 8 (marked 114 8 x)) (sym (xor_zero_r w)) ∙ marked_bytes 114 (omega arith) 0 (omega arith) mark (λ b h. ap (marked 114 1) (xor_zero_r b) ∙ above_cr_marked b h) 8 w

pub marks_of_bytes : (w c : ℕ) → c < 256 → bytes_of 8 (marked 127 8 (bit_xor w (0x0101010101010101 * c))) ≡ map (mark_of c) (bytes_of 8 w)
unfolding repeated
marks_of_bytes w c h =
    let z : 0x0101010101010101 * c ≡ repeated 8 c = omega arith in
    rw z (marked_bytes 127 (omega arith) c h (mark_of c) (byte_marked c h) 8 w)

-- ---- below the lowest bit
-- k zeros at the end are the lowest k digits, and more zeros are those of the other digits
trailing_low : (k m n : ℕ) → k ≤ count_trailing_zeros (k + m) n → (n % 2 ^ k ≡ 0) × (count_trailing_zeros (k + m) n ≡ k + count_trailing_zeros m (n / 2 ^ k))
unfolding count_trailing_zeros
trailing_low zero m n h = (mod-one n, rw (div-one n, zero-add m, zero-add (count_trailing_zeros m n)))
trailing_low (suc k) m n h = rw (suc-add k m) (go (trailing_low k m (n / 2)) (n % 2) refl (rw (suc-add k m) at h))
  where
    go : (k ≤ count_trailing_zeros (k + m) (n / 2) → (n / 2 % 2 ^ k ≡ 0) × (count_trailing_zeros (k + m) (n / 2) ≡ k + count_trailing_zeros m (n / 2 / 2 ^ k))) → (d : ℕ) → n % 2 ≡ d
        → suc k ≤ under d (count_trailing_zeros (k + m) (n / 2)) → (n % 2 ^ suc k ≡ 0) × (under d (count_trailing_zeros (k + m) (n / 2)) ≡ suc k + count_trailing_zeros m (n / 2 ^ suc k))
    go rest zero e l =
        let r = rest (le_of_suc-le-suc l) in
        let low : n % 2 ^ (k + 1) ≡ 0 = omega (arith, mod-pow-add n k 1, r.0) in
        let high : n / 2 / 2 ^ k ≡ n / 2 ^ (1 + k) = shr-shr n 1 k in
        (rw (add-one k) at low, rw (r.1, high, one-add k, suc-add k))
    go rest (suc d) e l = absurd (not-suc-le-zero l)

-- the bytes below that of the lowest bit are 0
zero_bytes : (n w j : ℕ) → j < count_trailing_zeros (n * 8) w / 8 → get_or (bytes_of n w) j 0 ≡ 0
unfolding bytes_of
zero_bytes zero w j h = refl
zero_bytes (suc n) w j h = go (zero_bytes n (w / 256)) j (rw z at h)
  where
    z : suc n * 8 ≡ 8 + n * 8
    z = omega arith

    low : 8 ≤ count_trailing_zeros (8 + n * 8) w → (w % 256 ≡ 0) × (count_trailing_zeros (8 + n * 8) w ≡ 8 + count_trailing_zeros (n * 8) (w / 256))
    low = trailing_low 8 (n * 8) w

    go : ((j : ℕ) → j < count_trailing_zeros (n * 8) (w / 256) / 8 → get_or (bytes_of n (w / 256)) j 0 ≡ 0) → (j : ℕ) → j < count_trailing_zeros (8 + n * 8) w / 8
        → get_or (w % 256 ∷ bytes_of n (w / 256)) j 0 ≡ 0
    go rest zero l = (low (omega arith)).0
    go rest (suc j) l = rest j (omega (arith, (low (omega arith)).1))

-- ---- what a mark tells of a byte
-- a byte without a mark is above CR
mark_above : (b : ℕ) → mark b ≡ 0 → 14 ≤ b
unfolding mark
mark_above b e = go (ltb b 14) refl e
  where
    go : (t : Bool) → ltb b 14 ≡ t → ◌≡◌ {A = ℕ} (cond t 128 0) 0 → 14 ≤ b
    go true f z = omega arith
    go false f z = ltb-false b 14 f

-- and so it ends no line
ends_none : (b : ℕ) → mark b ≡ 0 → is_none_of (bytes "\r\n") b ≡ true
ends_none b e = let l = mark_above b e in rw (ne_eqb 13 b (λ q. omega arith), ne_eqb 10 b (λ q. omega arith))

-- a byte without a mark for c is not c
not_marked : (c b : ℕ) → mark_of c b ≡ 0 → eqb c b ≡ false
unfolding mark_of
not_marked c b e = go (eqb c b) refl e
  where
    go : (t : Bool) → eqb c b ≡ t → ◌≡◌ {A = ℕ} (cond t 128 0) 0 → eqb c b ≡ false
    go true f z = absurd (omega arith)
    go false f z = f

or_zero : (x y : ℕ) → bit_or x y ≡ 0 → (x ≡ 0) × (y ≡ 0)
or_zero x y e = let f = or_add_and x y in (omega (arith, e, f, and_le_r x y), omega (arith, e, f, and_le_l x y))

-- where both together have no bit, neither has one
or_bytes : (n x y k : ℕ) → get_or (bytes_of n (bit_or x y)) k 0 ≡ 0 → (get_or (bytes_of n x) k 0 ≡ 0) × (get_or (bytes_of n y) k 0 ≡ 0)
unfolding bytes_of
or_bytes zero x y k e = (refl, refl)
or_bytes (suc n) x y zero e = or_zero (x % 256) (y % 256) (sym (or_mod x y 8) ∙ e)
or_bytes (suc n) x y (suc k) e = or_bytes n (x / 256) (y / 256) k (ap (λ z. get_or (bytes_of n z) k 0) (sym (or_shr x y 8)) ∙ e)

-- a byte of the word, by its marks
mark_of_lem : (m : ℕ → ℕ) (f w k : ℕ) → bytes_of 8 f ≡ map m (bytes_of 8 w) → k < 8 → m (get_or (bytes_of 8 w) k 0) ≡ get_or (bytes_of 8 f) k 0
unfolding bytes_of
mark_of_lem m f w k e h =
    sym (get_or-map m (bytes_of 8 w) k 0) ∙ ap (λ bs. get_or bs k (m 0)) (sym e) ∙ any_default (bytes_of 8 f) k (m 0) 0 h

-- a byte that no mark is on ends no line
pub line_unmarked : (w f : ℕ) → bytes_of 8 f ≡ map mark (bytes_of 8 w) → (k : ℕ) → k < 8 → get_or (bytes_of 8 f) k 0 ≡ 0 → is_none_of (bytes "\r\n") (get_or (bytes_of 8 w) k 0) ≡ true
line_unmarked w f e k h z = ends_none (get_or (bytes_of 8 w) k 0) (mark_of_lem mark f w k e h ∙ z)

-- a byte that is none of the bytes of a set
pub none_of_all : (set : List ℕ) (x : ℕ) → All (λ j. eqb (get_or set j 0) x ≡ false) 0 (length set) → is_none_of set x ≡ true
none_of_all [] x h = refl
none_of_all (b ∷ set) x h = rw (h 0 zero-le (zero-lt-suc (length set))) (none_of_all set x (λ j n l. h (suc j) zero-le (suc-le-suc l)))

-- one more byte of a set has left no mark
pub unmarked_on : (set : List ℕ) (w n f g : ℕ) → ((k : ℕ) → k < 8 → get_or (bytes_of 8 f) k 0 ≡ 0 → All (λ j. eqb (get_or set j 0) (get_or (bytes_of 8 w) k 0) ≡ false) 0 n)
    → bytes_of 8 g ≡ map (mark_of (get_or set n 0)) (bytes_of 8 w) → (k : ℕ) → k < 8 → get_or (bytes_of 8 (bit_or f g)) k 0 ≡ 0 → All (λ j. eqb (get_or set j 0) (get_or (bytes_of 8 w) k 0) ≡ false) 0 (n + 1)
unmarked_on set w n f g h e k l z =
    let o = or_bytes 8 f g k z in
    more (λ j. eqb (get_or set j 0) (get_or (bytes_of 8 w) k 0) ≡ false) 0 n (h k l o.0) (not_marked (get_or set n 0) (get_or (bytes_of 8 w) k 0) (mark_of_lem (mark_of (get_or set n 0)) g w k e l ∙ o.1))

-- ---- a run up to the first byte of a word that is marked
module _ (p : ℕ → Bool) (text : List ℕ) (i w found : ℕ) (h : i + 8 ≤ length text) (e : Holds text w i) (unmarked : Unmarked p w found) where
  passes : All (λ j. (j < length text) × Passes p text j) i (i + count_trailing_zeros 64 found / 8)
  passes j n l =
      let most : count_trailing_zeros 64 found ≤ 64 = trailing_le 64 found in
      let k : j - i < 8 = omega arith in
      let z : i + (j - i) ≡ j = omega arith in
      let byte : get_or (bytes_of 8 w) (j - i) 0 ≡ get_or text j 0 =
      ap (λ bs. get_or bs (j - i) 0) e ∙ get_or-take 8 (drop i text) (j - i) 0 k ∙ get_or-drop i text (j - i) 0 ∙ ap (λ x. get_or text x 0) z in
      (omega arith, ap p (sym byte) ∙ unmarked (j - i) k (zero_bytes 8 found (j - i) (omega arith)))

  pub run_to_mark : run_end p text i ≡ run_end p text (i + count_trailing_zeros 64 found / 8)
  run_to_mark = run_on p text i _ (omega arith) passes

  pub run_past_word : found ≡ 0 → run_end p text i ≡ run_end p text (i + 8)
  unfolding count_trailing_zeros
  run_past_word z = run_to_mark ∙ ap (λ x. run_end p text (i + count_trailing_zeros 64 x / 8)) z
