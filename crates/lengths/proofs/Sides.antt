-- The digits on the two sides of a point: how large a number they write, what length they make, and how large that is. Assumes nothing.
use Prim.Native.Nat.{ℕ, zero, suc, ◌+◌, ◌-◌, ◌*◌, ◌^◌, ◌≤◌, ◌<◌}
use mathlib.Core.Path.{◌≡◌, refl, sym, ◌∙◌, ap}
use mathlib.Core.Bool.{Bool, true, false, cond, ◌&&◌}
use mathlib.Core.List.{List}
use mathlib.Core.Option.{Option, none, some}
use native.Mathlib.Omega.{arith}
use native.Mathlib.Nat.{lt_of_lt_of_le, le_of_eq, mul-lt-mul_of_pos_right, add-mul, mul_assoc, mul_comm, mul_right_comm, one-le-pow, pow-le-pow_right}
use lib.Dec.{leb, ltb}
use lib.ListN.{drop}
use lib.Pow.{pow-add}
use borrow.Author.Tests.{leb-true}
use Rattle.text.specs.Why.{Why, no_digits}
use Rattle.text.specs.Nom.{Res, fail, ok, Parser, Span, bytes, is_digit, is_none_of, run_end, after_tag, decimal, bind, or_none, tag, take1, digit1, preceded}
use Rattle.text.proofs.Laws.{decimal_below, and_left, and_right}
use Rattle.text.proofs.Takes.{when_ok, bind_ok}
use Rattle.tables.specs.Layout.{second}
use Rattle.lengths.specs.Duration.{Digits, digits, counted, side_digits, Length, ns, too_many_digits, length_of, float, duration_title_tag, extinf}

-- digits, and as many zeros as make them nine
pad : (n : ℕ) → n ≤ side_digits → 10 ^ n * 10 ^ (9 - n) ≡ second
pad n h = let z : n + (9 - n) ≡ 9 = omega arith in sym (pow-add 10 n (9 - n)) ∙ ap (λ (k : ℕ). 10 ^ k) z

-- a number that is none of those below n, as the last arm of a `match` knows it, is n or more
abbrev pub NoneBelow : ℕ → ℕ → Type 0
NoneBelow zero k = Unit {0}
NoneBelow (suc n) k = NoneBelow n k × (k ≡ n → ⊥)

pub none_below : (n k : ℕ) → NoneBelow n k → n ≤ k
none_below zero k h = omega arith
none_below (suc n) k h = omega (arith, none_below n k h.0, h.1)

-- n digits write a number below 10 ^ n
abbrev pub Written : Digits → Type 0
Written (digits v n) = v < 10 ^ n

pub counted_written : (text : List ℕ) (at m : ℕ) (d : Digits) → counted text at ≡ ok d m → Written d
unfolding counted
counted_written text at m (digits v n) e =
    let f = bind_ok (digit1 text at) (λ u k. ok (digits u (k - at)) k) (digits v n) m e in
    let w = when_ok (ltb at (run_end is_digit text at)) no_digits (decimal 0 (drop at text)) f.0 (run_end is_digit text at) f.1 f.2 in
    let x : v ≡ decimal 0 (drop at text) = cc in
    let y : n ≡ run_end is_digit text at - at = cc in
    rw (x, y) (decimal_below text at)

-- nine digits at most write a number below second, also padded to nine
module _ (v n : ℕ) (few : n ≤ side_digits) (h : v < 10 ^ n) where
  pub side_below : v < second
  side_below = lt_of_lt_of_le h (pow-le-pow_right (omega arith) few)

  pub padded_below : v * 10 ^ (9 - n) < second
  padded_below = lt_of_lt_of_le (mul-lt-mul_of_pos_right h (one-le-pow (9 - n) 10 (omega arith))) (le_of_eq (pad n few))

-- ---- exact lengths
length_ns : (b : Bool) (x a : ℕ) → cond b (ns x) too_many_digits ≡ ns a → (b ≡ true) × (x ≡ a)
length_ns true x a e = (refl, cc)
length_ns false x a e = let z : ◌≡◌ {A = ℕ} 0 1 = cc in absurd (omega arith)

module _ (v n w m a : ℕ) (e : length_of (digits v n) (some (digits w m)) ≡ ns a) where
  both_few : (n ≤ side_digits) × (m ≤ side_digits)
  both_few =
      let b = leb n side_digits in
      let c = leb m side_digits in
      let x = (length_ns (b && c) (v * second + w * 10 ^ (9 - m)) a e).0 in
      (leb-true n side_digits (and_left b c x), leb-true m side_digits (and_right b c x))

  both_sum : v * second + w * 10 ^ (9 - m) ≡ a
  both_sum = (length_ns (leb n side_digits && leb m side_digits) (v * second + w * 10 ^ (9 - m)) a e).1

  -- the ns of a length are its seconds times 10^9: its digits, read without the point, are a whole number of 10^-m seconds
  pub both_exact : a * 10 ^ m ≡ (v * 10 ^ m + w) * second
  both_exact =
      rw (
        ← both_sum,
        add-mul (v * second) (w * 10 ^ (9 - m)) (10 ^ m),
        mul_assoc w (10 ^ (9 - m)) (10 ^ m),
        mul_comm (10 ^ (9 - m)) (10 ^ m),
        pad m both_few.1,
        add-mul (v * 10 ^ m) w second,
        mul_right_comm v second (10 ^ m),
      )

-- ---- `float`, by what its two rules read
abbrev pub after_point : Parser Digits
after_point = preceded (tag (bytes ".")) counted

module _ (text : List ℕ) (at : ℕ) where
  pub after_written : (m : ℕ) (d : Digits) → after_point text at ≡ ok d m → Written d
  after_written m d e = let f = bind_ok (tag (bytes ".") text at) (λ _ k. counted text k) d m e in counted_written text f.1 m d f.3

  pub float_none : (why : Why) → counted text at ≡ fail why → float text at ≡ fail why
  unfolding float
  float_none why e = rw e

  pub float_whole : (l : Digits) (m : ℕ) (why : Why) → counted text at ≡ ok l m → after_point text m ≡ fail why → float text at ≡ ok (length_of l none) m
  unfolding float
  float_whole l m why e g = rw (e, g)

  pub float_both : (l r : Digits) (m n : ℕ) → counted text at ≡ ok l m → after_point text m ≡ ok r n → float text at ≡ ok (length_of l (some r)) n
  unfolding float
  float_both l r m n e g = rw (e, g)

-- ---- an exact length is below 10^9 seconds
whole_below : (d : Digits) (a : ℕ) → Written d → length_of d none ≡ ns a → a < 10 ^ 18
whole_below (digits v n) a h e =
    let x = length_ns (leb n side_digits) (v * second) a e in
    omega (arith, x.1, side_below v n (leb-true n side_digits x.0) h)

both_below : (l r : Digits) (a : ℕ) → Written l → Written r → length_of l (some r) ≡ ns a → a < 10 ^ 18
both_below (digits v n) (digits w m) a h k e =
    let x = both_few v n w m a e in
    omega (arith, both_sum v n w m a e, side_below v n x.0 h, padded_below w m x.1 k)

pub float_below : (text : List ℕ) (at n a : ℕ) → float text at ≡ ok (ns a) n → a < 10 ^ 18
unfolding float
float_below text at n a e =
    let f = bind_ok (counted text at) _ (ns a) n e in
    let h = counted_written text at f.1 f.0 f.2 in
    go f.0 f.1 h (after_point text f.1) refl f.3
  where
    go : (l : Digits) (m : ℕ) → Written l → (r : Res Digits) → after_point text m ≡ r → bind (or_none r m) (λ right k. ok (length_of l right) k) ≡ ok (ns a) n → a < 10 ^ 18
    go l m h (fail why) q e = whole_below l a h cc
    go l m h (ok d k) q e = both_below l d a h (after_written text m k d q) cc

pub duration_title_below : (text : List ℕ) (at n a : ℕ) (title : Option Span) → duration_title_tag text at ≡ ok (extinf (ns a) title) n → a < 10 ^ 18
unfolding duration_title_tag
duration_title_below text at n a title e =
    let f = bind_ok (float text at) _ (extinf (ns a) title) n e in
    let g = bind_ok (take1 text (run_end (is_none_of (bytes "\r\n,")) text (after_tag (bytes ",") text f.1))) _ (extinf (ns a) title) n f.3 in
    let z : f.0 ≡ ns a = cc in
    float_below text at f.1 a (f.2 ∙ ap (λ (d : Length). ok d f.1) z)
