-- The front of a fraction's digits: one digit more of it, the fraction's digits as its front's and the rest, and three of them as bytes. Assumes nothing.
use mathlib.Core.Path.{◌≡◌, refl, ap, sym, ◌∙◌}
use mathlib.Core.List.{List, [], ◌∷◌, ◌++◌}
use Prim.Native.Nat.{ℕ, zero, suc, ◌+◌, ◌*◌, ◌/◌, ◌%◌, ◌^◌, ◌≤◌, ◌<◌}
use native.Mathlib.Nat.{div-add-mod, div-div-eq-div-mul, add-mul-div_left, mod-mod_of_dvd, mod-lt, mod-eq_of_lt, dvd-mul_right, one-le-pow, mul_assoc, mul_comm, mul-suc, mul-zero, zero-div, zero-mod}
use native.Mathlib.Omega.{arith}
use lib.Dec.{lit<}
use lib.Pow.{pow-add}
use lib.ListN.{set, length, length-set}
use borrow.Author.Tests.{eq-eqb, ne_eqb}
use Rattle.digits.specs.Digits.{fraction_by}
use Rattle.digits.proofs.Length.{fraction_none, fraction_more}
use Rattle.put.specs.Put.{Puts}
use Rattle.put.proofs.Putting.{puts_then, byte_fits}
use Rattle.numerals.specs.Inside.Front.{front_by}

-- ---- one digit more, and none
front_none : (k f b : ℕ) → f + b ≡ 0 → front_by k f b ≡ []
unfolding front_by
front_none zero f b h = refl
front_none (suc k) f b h = rw (eq-eqb (f + b) 0 h)

front_more : (k f b : ℕ) → (f + b ≡ 0 → ⊥) → front_by (suc k) f b ≡ (48 + f / 10 ^ k) ∷ front_by k (f % 10 ^ k) b
unfolding front_by
front_more k f b h = rw (ne_eqb (f + b) 0 h)

-- ---- a front and the rest
ten : (k : ℕ) → 0 < 10 ^ k
ten k = one-le-pow k 10 (lit< tt)

-- a product is zero where its other number is
pub none_left : (p r : ℕ) → 0 < p → p * r ≡ 0 → r ≡ 0
none_left p zero h e = refl
none_left p (suc r) h e = absurd (omega (arith, mul-suc p r))

-- the quotient of what a division by more leaves
mod_div : (p q r : ℕ) → 0 < p → r % (p * q) / p ≡ r / p % q
mod_div p q r h =
    let whole : r % (p * q) + p * (q * (r / p / q)) ≡ r = omega (arith, div-add-mod r (p * q), ap (λ n. p * q * n) (div-div-eq-div-mul r p q), mul_assoc p q (r / p / q)) in
    let quotient : r % (p * q) / p + q * (r / p / q) ≡ r / p = sym (add-mul-div_left (r % (p * q)) (q * (r / p / q)) h) ∙ ap (λ n. n / p) whole in
    omega (arith, div-add-mod (r / p) q)

module _ (m q : ℕ) (h : 0 < q) where
  some : (r : ℕ) → (r ≡ 0 → ⊥) → r / 10 ^ m + q * (r % 10 ^ m) ≡ 0 → ⊥
  some r s e =
      let none : r % 10 ^ m ≡ 0 = none_left q (r % 10 ^ m) h (omega arith) in
      let zero : r / 10 ^ m ≡ 0 = omega arith in
      s (omega (arith, div-add-mod r (10 ^ m), ap (λ n. 10 ^ m * n) zero))

  -- what stands behind the front is the rest, so many times
  pub front_rest : (k r : ℕ) → r < 10 ^ (k + m) → fraction_by (k + m) r ≡ front_by k (r / 10 ^ m) (q * (r % 10 ^ m)) ++ fraction_by m (r % 10 ^ m)
  unfolding front_by
  front_rest zero r b = let e : 0 + m ≡ m = omega arith in rw e (ap (fraction_by m) (sym (mod-eq_of_lt (rw e at b))))
  front_rest (suc k) zero b = rw (zero-div (10 ^ m), zero-mod (10 ^ m), mul-zero q, fraction_none m, fraction_none (suc k + m))
  front_rest (suc k) (suc r) b =
      let n = suc r in
      let e : suc k + m ≡ suc (k + m) = omega arith in
      let s : n ≡ 0 → ⊥ = λ e. omega arith in
      let p : 10 ^ (k + m) ≡ 10 ^ m * 10 ^ k = pow-add 10 k m ∙ mul_comm (10 ^ k) (10 ^ m) in
      let d : n / 10 ^ (k + m) ≡ n / 10 ^ m / 10 ^ k = ap (λ x. n / x) p ∙ sym (div-div-eq-div-mul n (10 ^ m) (10 ^ k)) in
      let u : n % 10 ^ (k + m) / 10 ^ m ≡ n / 10 ^ m % 10 ^ k = ap (λ x. n % x / 10 ^ m) p ∙ mod_div (10 ^ m) (10 ^ k) n (ten m) in
      let v : n % 10 ^ (k + m) % 10 ^ m ≡ n % 10 ^ m = mod-mod_of_dvd (10 ^ m) n (rw p (dvd-mul_right (10 ^ m) (10 ^ k))) in
      ap (λ i. fraction_by i n) e
      ∙ fraction_more (k + m) n s
      ∙ ap (λ l. (48 + n / 10 ^ (k + m)) ∷ l) (front_rest k (n % 10 ^ (k + m)) (mod-lt n (ten (k + m))))
      ∙ (rw (d, u, v))
      ∙ ap (λ l. l ++ fraction_by m (n % 10 ^ m)) (sym (front_more k (n / 10 ^ m) (q * (n % 10 ^ m)) (some n s)))

-- ---- three digits, as they are written
module _ (f b : ℕ) (h : 0 < f + b) where
  pub front_one : front_by 3 f b ≡ (48 + f / 100) ∷ front_by 2 (f % 100) b
  front_one = front_more 2 f b (λ e. omega arith)

  pub front_two : (f % 100 + b ≡ 0 → ⊥) → front_by 3 f b ≡ (48 + f / 100) ∷ (48 + f % 100 / 10) ∷ front_by 1 (f % 100 % 10) b
  front_two i = rw (front_one, front_more 1 (f % 100) b i)

  -- one only, two only, and all three
  pub one_only : f % 100 + b ≡ 0 → front_by 3 f b ≡ (48 + f / 100) ∷ []
  one_only e = rw (front_one, front_none 2 (f % 100) b e)

  pub two_only : (f % 100 + b ≡ 0 → ⊥) → f % 100 % 10 + b ≡ 0 → front_by 3 f b ≡ (48 + f / 100) ∷ (48 + f % 100 / 10) ∷ []
  two_only i e = rw (front_two i, front_none 1 (f % 100 % 10) b e)

  pub all_three : (f % 100 % 10 + b ≡ 0 → ⊥) → front_by 3 f b ≡ (48 + f / 100) ∷ (48 + f % 100 / 10) ∷ (48 + f % 100 % 10) ∷ []
  unfolding front_by
  all_three i =
      let e : f % 100 % 10 / 10 ^ 0 ≡ f % 100 % 10 = omega arith in
      rw (front_two (λ n. i (omega arith)), front_more 0 (f % 100 % 10) b i, e)

module _ {out : List ℕ} {at a b : ℕ} where
  pub two_fit : at + 2 ≤ length out → Puts out at (a ∷ b ∷ []) (set (set out at a) (at + 1) b) (at + 2)
  two_fit h = let e : at + 1 + 1 ≡ at + 2 = omega arith in rw (← e) (puts_then (byte_fits (omega arith)) (byte_fits (omega (arith, length-set out at a))))

  pub three_fit : {c : ℕ} → at + 3 ≤ length out → Puts out at (a ∷ b ∷ c ∷ []) (set (set (set out at a) (at + 1) b) (at + 2) c) (at + 3)
  three_fit h =
      let e : at + 2 + 1 ≡ at + 3 = omega arith in
      rw (← e) (puts_then (two_fit (omega arith)) (byte_fits (omega (arith, length-set out at a, length-set (set out at a) (at + 1) b))))
