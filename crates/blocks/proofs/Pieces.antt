-- A text in pieces of the same size: where each stands. Assumes nothing.
use mathlib.Core.Path.{◌≡◌, sym, ◌∙◌, ap}
use mathlib.Core.List.{List}
use Prim.Native.Nat.{ℕ, zero, suc, ◌+◌, ◌-◌, ◌*◌, ◌/◌, ◌≤◌, ◌<◌}
use native.Mathlib.Nat.{div-add-mod', le_of_suc-le-suc, not-suc-le-zero}
use native.Mathlib.Omega.{arith}
use lib.ListN.{length, take, drop, get_or, length-drop}
use lib.Seq.{drop-drop, take-length}
use Rattle.std.specs.Simd.{first_chunks}

-- the k-th of c pieces of n elements
pub piece : {X : Type 0} (n c k : ℕ) (xs : List X) (d : List X) → k < c → get_or (first_chunks n c xs) k d ≡ take n (drop (n * k) xs)
piece n zero k xs d h = absurd (not-suc-le-zero h)
piece n (suc c) zero xs d h = let z : 0 ≡ n * 0 = omega arith in ap (λ (i : ℕ). take n (drop i xs)) z
piece n (suc c) (suc k) xs d h =
    let z : n + n * k ≡ n * suc k = omega arith in
    piece n c k (drop n xs) d (le_of_suc-le-suc h) ∙ ap (take n) (drop-drop (n * k) n xs ∙ ap (λ (i : ℕ). drop i xs) z)

-- .. of the part of a text from a place on
pub piece_at : {X : Type 0} (n c k at : ℕ) (text : List X) (d : List X) → k < c → get_or (first_chunks n c (take (length text - at) (drop at text))) k d ≡ take n (drop (at + n * k) text)
piece_at n c k at text d h =
    let rest : take (length text - at) (drop at text) ≡ drop at text = ap (λ (m : ℕ). take m (drop at text)) (sym (length-drop at text)) ∙ take-length (drop at text) in
    rw rest (piece n c k (drop at text) d h ∙ ap (take n) (drop-drop (n * k) at text))

-- .. and where it ends
module _ (n at k : ℕ) where
  pub piece_within : (rest size : ℕ) → k < rest / n → at + rest ≤ size → at + n * k + n ≤ size
  piece_within rest size h l =
      let more : n * (rest / n) ≡ n * k + n + n * (rest / n - (k + 1)) = ap (λ (q : ℕ). n * q) split ∙ omega arith in
      omega (arith, more, div-add-mod' rest n)
    where
      split : rest / n ≡ k + 1 + (rest / n - (k + 1))
      split = omega arith

  pub piece_end : at + n * k + n ≡ at + n * (k + 1)
  piece_end = omega arith
