-- The last of a number's eight bytes, high byte first, are its bytes in a field of so many. Assumes nothing.
use Rattle.std.proofs.Common.{w64}
use Rattle.std.specs.Int.{to_be_bytes, bytes_high_first, byte_at}
use Rattle.std.proofs.Math.Nat.{div-div-eq-div-mul, pow-suc, mul_comm}
use mathlib.Core.Path.{◌≡◌, refl, sym, ap, ◌∙◌}
use mathlib.Core.List.{List, [], ◌∷◌, ◌++◌}
use Prim.Native.Nat.{ℕ, zero, suc, ◌+◌, ◌-◌, ◌/◌, ◌%◌, ◌^◌, ◌≤◌}
use native.Mathlib.Omega.{arith}
use lib.ListN.{length, take, drop, length-drop}
use Rattle.std.proofs.lemmas.List.{take_all}
use Rattle.cue_file.specs.Format.{bytes_of}

-- a byte of the quotient is the next one of the number
next_byte : (k n : ℕ) → byte_at (suc k) n ≡ byte_at k (n / 256)
next_byte zero n = refl
next_byte (suc k) n =
    let e : n / 256 / 256 ^ suc k ≡ n / 256 ^ suc (suc k) = div-div-eq-div-mul n 256 (256 ^ suc k) ∙ ap (λ (d : ℕ). n / d) (mul_comm 256 (256 ^ suc k) ∙ sym (pow-suc 256 (suc k))) in
    ap (λ (q : ℕ). q % 256) (sym e)

lowest_last : (w n : ℕ) → bytes_high_first (suc w) n ≡ bytes_high_first w (n / 256) ++ (n % 256 ∷ [])
lowest_last zero n = refl
lowest_last (suc k) n = λ i. next_byte k n i ∷ lowest_last k n i

field_bytes : (w n : ℕ) → bytes_high_first w n ≡ bytes_of w n
unfolding bytes_of
field_bytes zero n = refl
field_bytes (suc w) n = lowest_last w n ∙ ap (λ (bs : List ℕ). bs ++ (n % 256 ∷ [])) (field_bytes w (n / 256))

last_of : (k m w n : ℕ) → m ≡ w + k → drop k (bytes_high_first m n) ≡ bytes_high_first w n
last_of zero m w n e = let i : m ≡ w = omega (arith, e) in ap (λ (d : ℕ). bytes_high_first d n) i
last_of (suc k) zero w n e = absurd (omega (arith, e))
last_of (suc k) (suc m) w n e = last_of k m w n (omega (arith, e))

pub last_bytes : (w value : ℕ) → w ≤ 8 → take (8 - (8 - w)) (drop (8 - w) (to_be_bytes w64 value)) ≡ bytes_of w value
last_bytes w value h =
    let bytes = drop (8 - w) (to_be_bytes w64 value) in
    let long : length bytes ≤ 8 - (8 - w) = omega (arith, length-drop (8 - w) (to_be_bytes w64 value)) in
    take_all (8 - (8 - w)) bytes long ∙ (last_of (8 - w) 8 w value (omega (arith, h)) ∙ field_bytes w value)
