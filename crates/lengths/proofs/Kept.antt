-- What the code keeps of digits, and how `float` follows: a value that a u64 does not hold is kept as 0. Assumes nothing.
use Prim.Native.Nat.{ℕ, ◌+◌, ◌-◌, ◌*◌, ◌^◌, ◌≤◌, ◌<◌}
use mathlib.Core.Path.{◌≡◌, refl, sym, ◌∙◌, ap, ap₂}
use mathlib.Core.Bool.{Bool, true, false, cond, ◌&&◌}
use mathlib.Core.List.{List}
use mathlib.Core.Option.{none, some}
use native.Mathlib.Omega.{arith}
use lib.Dec.{leb, ltb}
use borrow.Author.Tests.{leb-true, lt-ltb}
use Rattle.text.specs.Why.{Why}
use Rattle.text.specs.Nom.{Res, fail, ok, bind, digit1, map}
use Rattle.text.specs.Util.{fits, large, parse, parsed, or_zero}
use Rattle.text.proofs.Takes.{fail_not_ok}
use Rattle.tables.specs.Layout.{second}
use Rattle.lengths.specs.Duration.{Digits, digits, counted, side_digits, Length, ns, too_many_digits, length_of, float}
use Rattle.lengths.specs.Answers.{kept}
use Rattle.lengths.proofs.Sides.{Written, counted_written, side_below, after_point, after_written, float_none, float_whole, float_both}

kept_value : (v n : ℕ) → n ≤ side_digits → v < 10 ^ n → or_zero (parse v) ≡ v
kept_value v n few h = rw (lt-ltb v (2 ^ 64) (omega (arith, side_below v n few h)))

or_zero_le : (v : ℕ) → or_zero (parse v) ≤ v
or_zero_le v = go (ltb v (2 ^ 64))
  where
    go : (b : Bool) → or_zero (cond b (fits v) large) ≤ v
    go true = omega arith
    go false = omega arith

kept_written : (d : Digits) → Written d → Written (kept d)
kept_written (digits v n) h = omega (arith, or_zero_le v)

-- kept digits make the same length: with a value that is lost, there are too many
kept_length : (l r : Digits) → Written l → Written r → length_of (kept l) (some (kept r)) ≡ length_of l (some r)
kept_length (digits v n) (digits w m) h k = go (leb n side_digits) (leb m side_digits) refl refl
  where
    go : (b c : Bool) → leb n side_digits ≡ b → leb m side_digits ≡ c
        → cond (b && c) (ns (or_zero (parse v) * second + or_zero (parse w) * 10 ^ (9 - m))) too_many_digits ≡ cond (b && c) (ns (v * second + w * 10 ^ (9 - m))) too_many_digits
    go true true p q = rw (kept_value v n (leb-true n side_digits p) h, kept_value w m (leb-true m side_digits q) k)
    go true false p q = refl
    go false c p q = refl

-- no fraction is one of no digits
no_fraction : (d : Digits) → length_of d (some (digits 0 0)) ≡ length_of d none
no_fraction (digits v n) = go (leb n side_digits)
  where
    go : (b : Bool) → cond (b && true) (ns (v * second + 0)) too_many_digits ≡ cond b (ns (v * second)) too_many_digits
    go true = ap ns (omega arith)
    go false = refl

pub counted_parsed : (text : List ℕ) (at : ℕ) → map kept counted text at ≡ bind (parsed text at) (λ p n. ok (digits (or_zero p) (n - at)) n)
unfolding counted parsed
counted_parsed text at = go (digit1 text at)
  where
    go : (r : Res ℕ) → bind (bind r (λ v n. ok (digits v (n - at)) n)) (λ d n. ok (kept d) n) ≡ bind (bind r (λ v n. ok (parse v) n)) (λ p n. ok (digits (or_zero p) (n - at)) n)
    go (fail why) = refl
    go (ok v n) = refl

-- ---- `float`, from what is kept of its two rules
-- what was kept, before it was kept
kept_ok : (r : Res Digits) (d : Digits) (m : ℕ) → bind r (λ x k. ok (kept x) k) ≡ ok d m → (x : Digits) × (r ≡ ok x m) × (kept x ≡ d)
kept_ok (fail why) d m e = absurd (fail_not_ok why d m e)
kept_ok (ok x k) d m e = (x, cc, cc)

kept_fail : (r : Res Digits) (why : Why) → bind r (λ x k. ok (kept x) k) ≡ fail why → r ≡ fail why
kept_fail (fail w) why e = cc
kept_fail (ok x k) why e = absurd (fail_not_ok why (kept x) k (sym e))

module _ (text : List ℕ) (at : ℕ) where
  pub left_kept : (m : ℕ) (d : Digits) → map kept counted text at ≡ ok d m → Written d
  left_kept m d e = let f = kept_ok (counted text at) d m e in rw (← f.2) (kept_written f.0 (counted_written text at m f.0 f.1))

  pub right_kept : (m : ℕ) (d : Digits) → map kept after_point text at ≡ ok d m → Written d
  right_kept m d e = let f = kept_ok (after_point text at) d m e in rw (← f.2) (kept_written f.0 (after_written text at m f.0 f.1))

  pub kept_none : (why : Why) → map kept counted text at ≡ fail why → float text at ≡ fail why
  kept_none why e = float_none text at why (kept_fail (counted text at) why e)

  pub kept_whole : (l : Digits) (m : ℕ) (why : Why) → map kept counted text at ≡ ok l m → map kept after_point text m ≡ fail why → float text at ≡ ok (length_of l (some (digits 0 0))) m
  kept_whole l m why e g =
      let f = kept_ok (counted text at) l m e in
      float_whole text at f.0 m why f.1 (kept_fail (after_point text m) why g)
      ∙ ap (λ (x : Length). ok x m) (sym (no_fraction f.0) ∙ sym (kept_length f.0 (digits 0 0) (counted_written text at m f.0 f.1) (omega arith)) ∙ ap (λ (d : Digits). length_of d (some (digits 0 0))) f.2)

  pub kept_both : (l r : Digits) (m n : ℕ) → map kept counted text at ≡ ok l m → map kept after_point text m ≡ ok r n → float text at ≡ ok (length_of l (some r)) n
  kept_both l r m n e g =
      let f = kept_ok (counted text at) l m e in
      let h = kept_ok (after_point text m) r n g in
      float_both text at f.0 h.0 m n f.1 h.1
      ∙ ap (λ (x : Length). ok x n) (sym (kept_length f.0 h.0 (counted_written text at m f.0 f.1) (after_written text m n h.0 h.1)) ∙ ap₂ (λ (a b : Digits). length_of a (some b)) f.2 h.2)
