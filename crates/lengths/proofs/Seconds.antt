-- The laws of a length's bits: they stand for the nearest binary32, a tie to an even last bit; they fit 32 bits, are no NaN's, and are not subnormal.
-- They rest on `NoneNearer` at ns / 10^9, and for the last bit on `Scaled`. Assumes nothing.
use mathlib.Core.Path.{◌≡◌, refl, sym, ap, ◌∙◌}
use mathlib.Core.Bool.{Bool, true, false, not, cond}
use mathlib.Core.Logic.{⊎_elim}
use Prim.Native.Nat.{ℕ, zero, suc, ◌+◌, ◌-◌, ◌*◌, ◌/◌, ◌%◌, ◌^◌, ◌≤◌, ◌<◌}
use native.Mathlib.Nat.{eq-zero-or-pos, le-div_iff_mul-le, div-lt_iff_lt-mul, eq_of_mul-eq-mul_right}
use native.Mathlib.Omega.{arith}
use lib.Pow.{pow_pos, pow_mono, pow-add}
use lib.Dec.{T, leb, ltb, eqb, leb→le, nleb→lt, lit<, lit≤}
use lib.Ieee.{Float, nan, inf, fin, Format, binary32, prec, low, down, units, odd, of_fields, of_bits, nan_bits, is_nan}
use lib.Ieee.Bits.{of_bits-to_bits, to_bits-lt, nan_bits_is}
use lib.Ieee.Exact.{HasValue, odd_sign}
use lib.Ieee.Fits.{down_pos, round-fits, round_is}
use lib.Ieee.Order.{drop, kept}
use lib.Ieee.Scale.{grid, overflow, round_val}
use Rattle.tables.specs.Layout.{second}
use Rattle.lengths.specs.Binary32.{seconds_of, seconds_bits, StandsFor, off, Nearest}
use Rattle.lengths.proofs.NoneNearer.{none_nearer, ties_even}
use Rattle.lengths.proofs.Rounded.{size_is, value_bits, grid_under}
use Rattle.lengths.proofs.Scaled.{scaled, bits_are, digits_kept}

-- ---- bits and back
pub seconds_back : (ns : ℕ) → of_bits binary32 (seconds_bits ns) ≡ seconds_of ns
unfolding seconds_bits
seconds_back ns = of_bits-to_bits binary32 (seconds_of ns) (round-fits binary32 false ns second)

pub seconds_lt : (ns : ℕ) → seconds_bits ns < 2 ^ 32
unfolding seconds_bits
seconds_lt ns = to_bits-lt binary32 (seconds_of ns) (round-fits binary32 false ns second)

-- ---- the value
stands : (ns : ℕ) → ns < 2 ^ 64 → StandsFor (seconds_bits ns) (grid binary32 ns second)
unfolding seconds_of
stands ns h = rw seconds_back (round_val binary32 ns second (grid_under binary32 ns second 64 h (lit≤ tt)))

-- the last bit is the last digit kept
low_bit : (k d : ℕ) → (k * 8388608 + d) % 2 ≡ d % 2
low_bit k d = omega arith

abbrev LastBit : ℕ → Type 0
LastBit ns = seconds_bits ns % 2 ≡ kept 24 (ns * 2 ^ 149) second % 2

last_bit_zero : LastBit 0
unfolding seconds_bits
last_bit_zero = refl

last_bit : (ns : ℕ) → ns < 2 ^ 64 → LastBit ns
last_bit ns h = ⊎_elim none some (eq-zero-or-pos ns)
  where
    none : ns ≡ 0 → LastBit ns
    none e = rw e last_bit_zero

    some : 0 < ns → LastBit ns
    some p =
        let S = scaled ns _ p h refl in
        ap (λ (z : ℕ). z % 2) (sym (bits_are S refl refl)) ∙ low_bit _ _ ∙ ap (λ (z : ℕ). z % 2) (digits_kept S refl refl)

pub seconds_nearest : (ns : ℕ) → ns < 2 ^ 64 → Nearest ns (seconds_bits ns)
seconds_nearest ns h = record {
  value = grid binary32 ns second;
  stands = stands ns h;
  none_nearer = λ q j l. none_nearer binary32 ns second (lit< tt) q j l;
  ties_even = λ q j l e ne. last_bit ns h ∙ ties_even binary32 ns second (lit< tt) q j l e ne;
}

-- ---- "no value here is subnormal": the exponent's field is not 0
pub seconds_normal : (ns : ℕ) → 0 < ns → ns < 2 ^ 64 → 2 ^ 23 ≤ seconds_bits ns
seconds_normal ns p h = let S = scaled ns _ p h refl in omega (arith, bits_are S refl refl)

-- ---- "its exponent follows from the highest one bit of the value": a value of 2^(j - 149) seconds or more has the field j - 149 + 127
field_of : (v j : ℕ) → 23 ≤ j → 2 ^ j ≤ v → v < 2 ^ suc j → ((j - 23) * 2 ^ 23 + v / 2 ^ (j - 23)) / 2 ^ 23 ≡ j - 22
field_of v j h lo hi =
    let k = j - 23 in
    let e : 23 + k ≡ j = omega arith in
    let e' : 24 + k ≡ suc j = omega arith in
    let l : 2 ^ 23 ≤ v / 2 ^ k = (le-div_iff_mul-le (pow_pos k)).1 (rw (← pow-add, e) lo) in
    let g : v / 2 ^ k < 2 ^ 24 = (div-lt_iff_lt-mul (pow_pos k)).1 (rw (← pow-add 2 24 k, e') hi) in
    omega arith

pub seconds_exponent : (ns v j : ℕ) → 0 < ns → ns < 2 ^ 64 → StandsFor (seconds_bits ns) v → 2 ^ j ≤ v → v < 2 ^ suc j → seconds_bits ns / 2 ^ 23 ≡ j - 22
unfolding seconds_bits
seconds_exponent ns v j p h S lo hi = go (leb 23 j) (leb→le 23 j) (nleb→lt 23 j)
  where
    bits : seconds_bits ns ≡ (suc j - 24) * 2 ^ 23 + v / 2 ^ (suc j - 24)
    bits = value_bits binary32 (seconds_of ns) v (rw seconds_back at S) ∙ rw (size_is v j lo hi)

    go : (b : Bool) → (T b → 23 ≤ j) → (T (not b) → j < 23) → seconds_bits ns / 2 ^ 23 ≡ j - 22
    go true x y =
        let e : suc j - 24 ≡ j - 23 = omega arith in
        rw (bits, e) (field_of v j (x tt) lo hi)
    go false x y =
        let e : suc j - 24 ≡ 0 = omega (arith, y tt) in
        let b : seconds_bits ns ≡ 0 * 2 ^ 23 + v / 1 = bits ∙ rw e in
        let m : 2 ^ suc j ≤ 2 ^ 23 = pow_mono {j = 23} (y tt) in
        omega (arith, seconds_normal ns p h)

-- ---- every binary32 that is not negative is such a number as `Nearest` weighs: no other bits stand for a nearer value
value_unique : (x : Float) (s : Bool) (v g c : ℕ) → HasValue x false v c → HasValue x s g c → v ≡ g
value_unique nan s v g c a b = absurd a
value_unique (inf t) s v g c a b = absurd a
value_unique (fin t m e) s v g c a b = eq_of_mul-eq-mul_right (down e) (down_pos e) v g (sym a.1 ∙ b.1)

abbrev pub Held : ℕ → Type 0
Held v = (q : ℕ) × (j : ℕ) × (q < 2 ^ 24) × (v ≡ q * 2 ^ j)

fields_held : (s : Bool) (x t v : ℕ) → t < 2 ^ 23 → HasValue (of_fields binary32 s x t) false v (2 ^ 149) → Held v
unfolding of_fields
fields_held s zero t v h S = (t, 0, omega arith, value_unique (odd 24 s t 0 149) s v (t * 2 ^ 0) (2 ^ 149) S (odd_sign 24 s t 0 149))
fields_held s (suc x) t v h S = go (eqb (suc x) 255) (eqb t 0) S
  where
    go : (a b : Bool) → HasValue (cond a (cond b (inf s) nan) (odd 24 s (2 ^ 23 + t) x 149)) false v (2 ^ 149) → Held v
    go true true W = absurd W
    go true false W = absurd W
    go false b W = (2 ^ 23 + t, x, omega arith, value_unique (odd 24 s (2 ^ 23 + t) x 149) s v ((2 ^ 23 + t) * 2 ^ x) (2 ^ 149) W (odd_sign 24 s (2 ^ 23 + t) x 149))

pub held : (w v : ℕ) → StandsFor w v → Held v
unfolding of_bits
held w v S = fields_held (leb (2 ^ 31) w) (w % 2 ^ 31 / 2 ^ 23) (w % 2 ^ 23) v (omega arith) S

pub seconds_best : (ns : ℕ) (h : ns < 2 ^ 64) (w v : ℕ) → StandsFor w v → off ns (seconds_nearest ns h).value ≤ off ns v
seconds_best ns h w v S = let H = held w v S in rw H.3 ((seconds_nearest ns h).none_nearer H.0 H.1 H.2)

-- ---- never a NaN's
units_number : (f : Format) (s : Bool) (q k : ℕ) → is_nan (units f s q k) ≡ false
unfolding units odd is_nan
units_number f s q k = go (ltb (q * 2 ^ k) (overflow f)) q
  where
    odd_number : (q : ℕ) → is_nan (odd (suc (prec f)) s q k (low f)) ≡ false
    odd_number zero = refl
    odd_number (suc q) = refl

    go : (b : Bool) (q : ℕ) → is_nan (cond b (odd (suc (prec f)) s q k (low f)) (inf s)) ≡ false
    go true q = odd_number q
    go false q = refl

seconds_number : (ns : ℕ) → is_nan (seconds_of ns) ≡ false
unfolding seconds_of
seconds_number ns = rw round_is (units_number binary32 false (kept 24 (ns * 2 ^ 149) second) (drop 24 (ns * 2 ^ 149) second))

pub seconds_not_nan : (ns : ℕ) → T (not (nan_bits binary32 (seconds_bits ns)))
seconds_not_nan ns = rw (nan_bits_is, seconds_back, seconds_number) tt
