-- A number's digits: the last one and those of the quotient by ten, how many there are, and that they read back. Assumes nothing.
use mathlib.Core.Path.{◌≡◌, refl, ◌∙◌, ap}
use mathlib.Core.Bool.{Bool, true, false, cond}
use mathlib.Core.List.{List, [], ◌∷◌, ◌++◌}
use Prim.Native.Nat.{ℕ, suc, zero, ◌+◌, ◌-◌, ◌*◌, ◌/◌, ◌%◌, ◌^◌, ◌≤◌, ◌<◌}
use native.Mathlib.Nat.{div-lt_iff_lt-mul, pow-suc}
use native.Mathlib.Omega.{arith}
use lib.Dec.{ltb, lit<}
use lib.ListN.{length, length-append}
use borrow.Author.Tests.{lt-ltb, le-ltb, le-leb, ltb-true, ltb-false}
use Rattle.text.specs.Nom.{is_digit, decimal}
use Rattle.text.proofs.Ahead.{Every, every_append}
use Rattle.digits.specs.Digits.{digits_by, number_text}

-- the digit that a number below ten is written by
pub digit_is : (d : ℕ) → d < 10 → is_digit (48 + d) ≡ true
unfolding is_digit
digit_is d h = rw (le-leb 48 (48 + d) (omega arith), le-leb (48 + d) 57 (omega arith))

pub digit_back : (d : ℕ) → 48 + d - 48 ≡ d
digit_back d = omega arith

-- the value of digits before others
pub decimal_append : (acc : ℕ) (a b : List ℕ) → Every is_digit a → decimal acc (a ++ b) ≡ decimal (decimal acc a) b
unfolding decimal Every
decimal_append acc [] b h = refl
decimal_append acc (x ∷ a) b h = rw h.0 (decimal_append (acc * 10 + (x - 48)) a b h.1)

pub decimal_none : (acc : ℕ) → decimal acc [] ≡ acc
unfolding decimal
decimal_none acc = refl

pub decimal_digit : (acc d : ℕ) (b : List ℕ) → d < 10 → decimal acc ((48 + d) ∷ b) ≡ decimal (acc * 10 + d) b
unfolding decimal
decimal_digit acc d b h = rw (digit_is d h, digit_back d)

-- one digit more than is needed changes nothing
digits_enough : (f n : ℕ) → n < 10 ^ f → digits_by f n ≡ digits_by (suc f) n
unfolding digits_by
digits_enough zero n h = rw (lt-ltb n 10 (omega arith))
digits_enough (suc f) n h =
    ap (λ l. cond (ltb n 10) [] l ++ (48 + n % 10) ∷ []) (digits_enough f (n / 10) ((div-lt_iff_lt-mul (lit< tt)).1 (rw pow-suc at h)))

-- a number of one digit; a longer one is its quotient by ten and the last digit
pub number_small : (n : ℕ) → n < 10 → number_text n ≡ (48 + n) ∷ []
unfolding number_text digits_by
number_small n h =
    let e : n % 10 ≡ n = omega arith in
    rw (lt-ltb n 10 h, e)

pub number_more : (n : ℕ) → 10 ≤ n → n < 2 ^ 64 → number_text n ≡ number_text (n / 10) ++ (48 + n % 10) ∷ []
unfolding number_text digits_by
number_more n h k = rw (le-ltb n 10 h) (ap (λ l. l ++ (48 + n % 10) ∷ []) (digits_enough 19 (n / 10) (omega arith)))

-- ---- how many
digits_short : (f k n : ℕ) → n < 10 ^ suc k → length (digits_by f n) ≤ suc k
unfolding digits_by
digits_short zero k n h = omega arith
digits_short (suc f) k n h = go (ltb n 10) refl k h (digits_short f)
  where
    go : (b : Bool) → ltb n 10 ≡ b → (k : ℕ) → n < 10 ^ suc k → ((k m : ℕ) → m < 10 ^ suc k → length (digits_by f m) ≤ suc k)
        → length (cond b [] (digits_by f (n / 10)) ++ (48 + n % 10) ∷ []) ≤ suc k
    go true q k h ih = omega arith
    go false q zero h ih = absurd (omega (arith, ltb-false n 10 q))
    go false q (suc k) h ih =
        simp length-append (omega (arith, ih k (n / 10) ((div-lt_iff_lt-mul (lit< tt)).1 (rw pow-suc at h))))

-- at most so many digits as the limit has zeros
pub number_short : (k n : ℕ) → n < 10 ^ suc k → length (number_text n) ≤ suc k
unfolding number_text
number_short k n h = digits_short 20 k n h

pub number_size : (n : ℕ) → n < 2 ^ 64 → length (number_text n) ≤ 20
number_size n h = number_short 19 n (omega arith)

-- ---- what they are
digits_every : (f n : ℕ) → Every is_digit (digits_by f n)
unfolding digits_by Every
digits_every zero n = (digit_is (n % 10) (omega arith), tt)
digits_every (suc f) n = every_append is_digit (cond (ltb n 10) [] (digits_by f (n / 10))) _ (go (ltb n 10) (digits_every f (n / 10))) (digit_is (n % 10) (omega arith), tt)
  where
    go : (b : Bool) → Every is_digit (digits_by f (n / 10)) → Every is_digit (cond b [] (digits_by f (n / 10)))
    go true h = tt
    go false h = h

pub number_digits : (n : ℕ) → Every is_digit (number_text n)
unfolding number_text
number_digits n = digits_every 20 n

-- ---- they read back
digits_back : (f n : ℕ) → n < 10 ^ suc f → decimal 0 (digits_by f n) ≡ n
unfolding digits_by decimal
digits_back zero n h = decimal_digit 0 (n % 10) [] (omega arith) ∙ omega arith
digits_back (suc f) n h = go (ltb n 10) refl (digits_back f)
  where
    go : (b : Bool) → ltb n 10 ≡ b → ((m : ℕ) → m < 10 ^ suc f → decimal 0 (digits_by f m) ≡ m)
        → decimal 0 (cond b [] (digits_by f (n / 10)) ++ (48 + n % 10) ∷ []) ≡ n
    go true q ih = decimal_digit 0 (n % 10) [] (omega arith) ∙ omega (arith, ltb-true n 10 q)
    go false q ih =
        let e = ih (n / 10) ((div-lt_iff_lt-mul (lit< tt)).1 (rw pow-suc at h)) in
        decimal_append 0 (digits_by f (n / 10)) _ (digits_every f (n / 10)) ∙ decimal_digit _ (n % 10) [] (omega arith) ∙ omega (arith, e)

pub number_back : (n : ℕ) → n < 2 ^ 64 → decimal 0 (number_text n) ≡ n
unfolding number_text
number_back n h = digits_back 20 n (omega arith)

-- digits, the first apart from the rest, and the value that they write: what a reader asks of what is ahead
pub record Digits (b : List ℕ) (v : ℕ) : Type 0 where
  pub first : ℕ
  pub rest : List ℕ
  pub parts : b ≡ first ∷ rest
  pub every : Every is_digit (first ∷ rest)
  pub value : decimal 0 (first ∷ rest) ≡ v

pub digits_of : (b : List ℕ) (v : ℕ) → 0 < length b → Every is_digit b → decimal 0 b ≡ v → Digits b v
digits_of [] v h e d = absurd (omega arith)
digits_of (x ∷ b) v h e d = record { first = x; rest = b; parts = refl; every = e; value = d }

pub number_first : (n : ℕ) → 0 < length (number_text n)
unfolding number_text digits_by
number_first n = simp length-append (omega arith)

pub number_parts : (n : ℕ) → n < 2 ^ 64 → Digits (number_text n) n
number_parts n h = digits_of (number_text n) n (number_first n) (number_digits n) (number_back n h)
