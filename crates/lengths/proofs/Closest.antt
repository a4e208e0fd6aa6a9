-- `closest n u`, the whole number nearest to n / u, a tie to the even one: how it is found, and that no other multiple of u is nearer to n.
-- Assumes nothing.
use mathlib.Core.Path.{◌≡◌, refl, sym, ap, ◌∙◌, subst}
use mathlib.Core.Bool.{not}
use Prim.Native.Nat.{ℕ, suc, ◌+◌, ◌-◌, ◌*◌, ◌/◌, ◌%◌, ◌≤◌, ◌<◌, compare, Ordering}
use native.Mathlib.Nat.{mod-lt, div-add-mod', le_of_eq, mul-le-mul_right}
use native.Mathlib.Omega.{arith}
use lib.Arith.{lt_of_le-ne}
use lib.Dec.{T, is_le, compare_is_eq, eqb, leb→le, nleb→lt, eqb→eq, eqb_refl}
use lib.Ieee.{nearest}
use lib.Ieee.Nearest.{closest}
use Rattle.lengths.specs.Binary32.{dist}

-- ---- what `compare` says
abbrev Says : Ordering → ℕ → ℕ → Type 0
Says Ordering.lt a b = a < b
Says Ordering.eq a b = a ≡ b
Says Ordering.gt a b = b < a

says : (a b : ℕ) → Says (compare a b) a b
says a b = go (compare a b) (leb→le a b) (nleb→lt a b) (eqb→eq a b) (λ (e : a ≡ b). subst (λ (x : ℕ). T (eqb a x)) e (eqb_refl a))
  where
    go : (o : Ordering) → (T (is_le o) → a ≤ b) → (T (not (is_le o)) → b < a) → (T (compare_is_eq o) → a ≡ b) → (a ≡ b → T (compare_is_eq o)) → Says o a b
    go Ordering.lt le gt eq ne = lt_of_le-ne (le tt) ne
    go Ordering.eq le gt eq ne = eq tt
    go Ordering.gt le gt eq ne = gt tt

-- ---- by how twice the remainder compares with the divisor
module _ (q a b : ℕ) where
  below : (o : Ordering) → Says o a b → a < b → nearest q o ≡ q
  below Ordering.lt s h = refl
  below Ordering.eq s h = omega arith
  below Ordering.gt s h = omega arith

  at : (o : Ordering) → Says o a b → a ≡ b → nearest q o ≡ q + q % 2
  at Ordering.lt s h = omega arith
  at Ordering.eq s h = refl
  at Ordering.gt s h = omega arith

  above : (o : Ordering) → Says o a b → b < a → nearest q o ≡ q + 1
  above Ordering.lt s h = omega arith
  above Ordering.eq s h = omega arith
  above Ordering.gt s h = omega arith

-- with the quotient w in hand, what it leaves is the remainder
module _ (n u w : ℕ) (e : w ≡ n / u) where
  pub quotient_rest : w * u + n % u ≡ n
  quotient_rest = rw e (div-add-mod' n u)

  twice_rest : (n - w * u) * 2 ≡ n % u * 2
  twice_rest = omega (arith, quotient_rest)

  pub closest_down : (n - w * u) * 2 < u → closest n u ≡ w
  closest_down h = below (n / u) (n % u * 2) u (compare (n % u * 2) u) (says (n % u * 2) u) (rw twice_rest at h) ∙ sym e

  pub closest_tie : (n - w * u) * 2 ≡ u → closest n u ≡ w + w % 2
  closest_tie h = at (n / u) (n % u * 2) u (compare (n % u * 2) u) (says (n % u * 2) u) (sym twice_rest ∙ h) ∙ ap (λ (z : ℕ). z + z % 2) (sym e)

  pub closest_up : u < (n - w * u) * 2 → closest n u ≡ w + 1
  closest_up h = above (n / u) (n % u * 2) u (compare (n % u * 2) u) (says (n % u * 2) u) (rw twice_rest at h) ∙ ap (λ (z : ℕ). z + 1) (sym e)

-- ---- within a half
pub record Half (n u q : ℕ) : Type 0 where
  pub over : q * u * 2 ≤ n * 2 + u
  pub under : n * 2 ≤ q * u * 2 + u

half_by : (n u : ℕ) → 0 < u → (o : Ordering) → Says o (n % u * 2) u → Half n u (nearest (n / u) o)
half_by n u p Ordering.lt s = let d = div-add-mod' n u in record { over = omega arith; under = omega arith }
half_by n u p Ordering.eq s =
    let d = div-add-mod' n u in
    let m : n / u % 2 * u ≤ 1 * u = mul-le-mul_right u (omega arith) in
    record { over = omega arith; under = omega arith }
half_by n u p Ordering.gt s =
    let d = div-add-mod' n u in
    let m = mod-lt n p in
    record { over = omega arith; under = omega arith }

pub half : (n u : ℕ) → 0 < u → Half n u (closest n u)
half n u p = half_by n u p (compare (n % u * 2) u) (says (n % u * 2) u)

-- of the multiples of u none is nearer to n
pub multiple : (n u q r : ℕ) → Half n u q → dist (q * u) n ≤ dist (r * u) n
multiple n u q r H = go (compare r q) (says r q)
  where
    go : (o : Ordering) → Says o r q → dist (q * u) n ≤ dist (r * u) n
    go Ordering.lt s = let m : suc r * u ≤ q * u = mul-le-mul_right u s in omega arith
    go Ordering.eq s = le_of_eq (ap (λ (z : ℕ). dist (z * u) n) (sym s))
    go Ordering.gt s = let m : suc q * u ≤ r * u = mul-le-mul_right u s in omega arith

-- ---- where another multiple is as near, it is a tie, and the even one was taken
strictly : (n u q r : ℕ) → q * u * 2 < n * 2 + u → n * 2 < q * u * 2 + u → (r ≡ q → ⊥) → dist (q * u) n < dist (r * u) n
strictly n u q r over under ne = go (compare r q) (says r q)
  where
    go : (o : Ordering) → Says o r q → dist (q * u) n < dist (r * u) n
    go Ordering.lt s = let m : suc r * u ≤ q * u = mul-le-mul_right u s in omega arith
    go Ordering.eq s = absurd (ne s)
    go Ordering.gt s = let m : suc q * u ≤ r * u = mul-le-mul_right u s in omega arith

pub multiple_even : (n u r : ℕ) → 0 < u → dist (r * u) n ≡ dist (closest n u * u) n → (r ≡ closest n u → ⊥) → closest n u % 2 ≡ 0
multiple_even n u r p = go (compare (n % u * 2) u) (says (n % u * 2) u)
  where
    go : (o : Ordering) → Says o (n % u * 2) u → dist (r * u) n ≡ dist (nearest (n / u) o * u) n → (r ≡ nearest (n / u) o → ⊥) → nearest (n / u) o % 2 ≡ 0
    go Ordering.lt s e ne =
        let d = div-add-mod' n u in
        omega (arith, strictly n u (n / u) r (omega arith) (omega arith) ne)
    go Ordering.eq s e ne = omega arith
    go Ordering.gt s e ne =
        let d = div-add-mod' n u in
        let m = mod-lt n p in
        omega (arith, strictly n u (suc (n / u)) r (omega arith) (omega arith) ne)
