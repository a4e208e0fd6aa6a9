-- A number in so many bytes: what was written is read back, and what was read, written again, is the bytes that stood there. For any width. Assumes nothing.
use mathlib.Core.Path.{◌≡◌, refl, ◌∙◌}
use mathlib.Core.List.{List, [], ◌∷◌, ◌++◌, append_assoc}
use Prim.Native.Nat.{ℕ, zero, suc, ◌+◌, ◌*◌, ◌/◌, ◌%◌, ◌^◌, ◌≤◌, ◌<◌}
use native.Mathlib.Nat.{pow-zero, pow-suc, div-add-mod', div-lt_iff_lt-mul}
use native.Mathlib.Omega.{arith}
use lib.Dec.{lit<}
use lib.ListN.{length, take, drop, get_or, length-append, length-drop}
use lib.Seq.{take-suc, get_or-drop}
use Rattle.text.proofs.Ahead.{on, byte_ahead}
use Rattle.cue_file.specs.Format.{bytes_of, value_at}

-- each entry is a byte; past the end there is 0
abbrev pub Bytes : List ℕ → Type 0
Bytes file = (i : ℕ) → get_or file i 0 < 256

pub bytes_length : (w v : ℕ) → length (bytes_of w v) ≡ w
unfolding bytes_of
bytes_length zero v = refl
bytes_length (suc w) v = length-append (bytes_of w (v / 256)) (v % 256 ∷ []) ∙ omega (arith, bytes_length w (v / 256))

-- written, then read
pub value_back : (w v : ℕ) (file : List ℕ) (at : ℕ) (xs : List ℕ) → v < 256 ^ w → drop at file ≡ bytes_of w v ++ xs → value_at w file at ≡ v
unfolding bytes_of value_at
value_back zero v file at xs h d = omega (arith, pow-zero 256)
value_back (suc w) v file at xs h d =
    let small : v / 256 < 256 ^ w = (div-lt_iff_lt-mul (lit< tt)).1 (rw pow-suc at h) in
    let high : drop at file ≡ bytes_of w (v / 256) ++ (v % 256 ∷ xs) = d ∙ append_assoc (bytes_of w (v / 256)) (v % 256 ∷ []) xs in
    let low : drop (at + w) file ≡ v % 256 ∷ xs = rw (bytes_length w (v / 256)) at (on file at (bytes_of w (v / 256)) (v % 256 ∷ xs) high) in
    rw (value_back w (v / 256) file at (v % 256 ∷ xs) small high, byte_ahead file (at + w) (v % 256) xs low) (div-add-mod' v 256)

-- read, then written
module _ (file : List ℕ) (small : Bytes file) where
  pub value_small : (w at : ℕ) → value_at w file at < 256 ^ w
  unfolding value_at
  value_small zero at = omega (arith, pow-zero 256)
  value_small (suc w) at = omega (arith, value_small w at, small (at + w), pow-suc 256 w)

  pub bytes_back : (w at : ℕ) → at + w ≤ length file → bytes_of w (value_at w file at) ≡ take w (drop at file)
  unfolding bytes_of value_at
  bytes_back zero at h = refl
  bytes_back (suc w) at h =
      let v = value_at w file at in
      let b = get_or file (at + w) 0 in
      let below : b < 256 = small (at + w) in
      let high : (v * 256 + b) / 256 ≡ v = omega arith in
      let low : (v * 256 + b) % 256 ≡ b = omega arith in
      rw (high, low, bytes_back w at (omega arith), take-suc (drop at file) w 0 (omega (arith, length-drop at file)), get_or-drop at file w 0)
