-- Where a length ends, and whether it has too many digits, without what they write. Assumes nothing.
use Prim.Native.Nat.{ℕ, ◌+◌, ◌-◌, ◌*◌, ◌^◌, ◌≤◌, ◌<◌}
use mathlib.Core.Path.{◌≡◌, refl, sym, ◌∙◌, ap}
use mathlib.Core.Bool.{Bool, true, false, not, cond, ◌&&◌, ◌||◌}
use mathlib.Core.List.{List}
use mathlib.Core.Option.{Option, none, some}
use native.Mathlib.Nat.{add_comm}
use native.Mathlib.Omega.{arith}
use lib.Dec.{leb, ltb}
use lib.ListN.{drop}
use borrow.Author.Tests.{leb-true, leb-false, lt-ltb, le-ltb}
use Rattle.text.specs.Why.{other_text}
use Rattle.text.specs.Nom.{Res, fail, ok, Span, bytes, is_digit, tagged, run_end, decimal, or_none, tag, digit1, opt}
use Rattle.text.proofs.Laws.{or_false}
use Rattle.text.proofs.Local.{ltb_add}
use Rattle.text.proofs.Takes.{when_ok, bind_ok}
use Rattle.tables.specs.Layout.{second}
use Rattle.lengths.specs.Duration.{Digits, digits, counted, side_digits, Length, ns, too_many_digits, length_of, float, extinf, is_long}
use Rattle.lengths.specs.Answers.{after}
use Rattle.lengths.proofs.Sides.{after_point, float_whole, float_both}
use Rattle.lengths.proofs.Takes.{takes_counted}

-- ---- too many digits
over : (n k : ℕ) → ltb k n ≡ not (leb n k)
over n k = go (leb n k) refl
  where
    go : (b : Bool) → leb n k ≡ b → ltb k n ≡ not b
    go true e = le-ltb k n (leb-true n k e)
    go false e = lt-ltb k n (leb-false n k e)

-- the point, counted as a digit
one_more : (n k : ℕ) → ltb (k + 1) (n + 1) ≡ ltb k n
one_more n k = rw (add_comm k 1, add_comm n 1) (ltb_add 1 k n)

-- a length that a test allows
picked_long : (b : Bool) (x : ℕ) (t : Option Span) → not b ≡ is_long (extinf (cond b (ns x) too_many_digits) t)
picked_long true x t = refl
picked_long false x t = refl

not_both : (b c : Bool) → (not b || not c) ≡ not (b && c)
not_both true c = refl
not_both false c = refl

module _ (v n : ℕ) (t : Option Span) where
  whole_long : ltb side_digits n ≡ is_long (extinf (length_of (digits v n) none) t)
  whole_long = over n side_digits ∙ picked_long (leb n side_digits) (v * second) t

  both_long : (w m : ℕ) → (ltb side_digits n || ltb side_digits m) ≡ is_long (extinf (length_of (digits v n) (some (digits w m))) t)
  both_long w m =
      let b = leb n side_digits in
      let c = leb m side_digits in
      rw (over n side_digits, over m side_digits) (not_both b c ∙ picked_long (b && c) (v * second + w * 10 ^ (9 - m)) t)

-- ---- digits, and those after a point
module _ (text : List ℕ) (at : ℕ) where
  counted_there : at < run_end is_digit text at → counted text at ≡ ok (digits (decimal 0 (drop at text)) (run_end is_digit text at - at)) (run_end is_digit text at)
  unfolding counted
  counted_there h = rw (lt-ltb at (run_end is_digit text at) h)

  -- how many they are is how far they go
  counted_far : (d : Digits) (m : ℕ) → counted text at ≡ ok d m → (v : ℕ) × (d ≡ digits v (m - at)) × (at < m)
  unfolding counted
  counted_far d m e =
      let f = bind_ok (digit1 text at) (λ u k. ok (digits u (k - at)) k) d m e in
      let z : f.1 ≡ m = cc f.3 in
      let x : digits f.0 (f.1 - at) ≡ d = cc f.3 in
      (f.0, sym x ∙ ap (λ (k : ℕ). digits f.0 (k - at)) z, omega (arith, (takes_counted text at m d e).0))

after_far : (text : List ℕ) (at : ℕ) (d : Digits) (m : ℕ) → after_point text at ≡ ok d m → (v : ℕ) × (d ≡ digits v (m - (at + 1))) × (at + 1 < m)
after_far text at d m e =
    let f = bind_ok (tag (bytes ".") text at) (λ _ k. counted text k) d m e in
    let w = when_ok (tagged (bytes ".") text at) other_text tt f.0 (at + 1) f.1 f.2 in
    rw w.2 (counted_far text f.1 d m f.3)

-- ---- a length from `at` to `end`, with its point, if it has one, at `point`
pub record Ended (text : List ℕ) (at point end : ℕ) : Type 0 where
  pub length : Length
  pub is : float text at ≡ ok length end
  pub from : point ≤ end
  pub long : (t : Option Span) → (ltb side_digits (point - at) || ltb (side_digits + 1) (end - point)) ≡ is_long (extinf length t)

module _ (text : List ℕ) (at point end : ℕ) (p : run_end is_digit text at ≡ point) (there : at < point) where
  abbrev v : ℕ
  v = decimal 0 (drop at text)

  left : counted text at ≡ ok (digits v (point - at)) point
  left = rw (← p) (counted_there text at (omega (arith, p)))

  pub float_ended : after point (opt after_point text point) ≡ end → Ended text at point end
  float_ended e = go (after_point text point) refl e
    where
      go : (r : Res Digits) → after_point text point ≡ r → after point (or_none r point) ≡ end → Ended text at point end
      go (fail why) q e =
          let l = length_of (digits v (point - at)) none in
          record {
            length = l;
            is = float_whole text at (digits v (point - at)) point why left q ∙ ap (λ (k : ℕ). ok l k) e;
            from = omega (arith, e);
            long = λ t. rw (le-ltb (side_digits + 1) (end - point) (omega (arith, e)), or_false (ltb side_digits (point - at))) (whole_long v (point - at) t);
          }
      go (ok d n) q e =
          let g = after_far text point d n q in
          let m = n - (point + 1) in
          let l = length_of (digits v (point - at)) (some (digits g.0 m)) in
          let z : end - point ≡ m + 1 = omega (arith, e, g.2) in
          record {
            length = l;
            is = float_both text at (digits v (point - at)) (digits g.0 m) point n left (q ∙ ap (λ (x : Digits). ok x n) g.1) ∙ ap (λ (k : ℕ). ok l k) e;
            from = omega (arith, e, g.2);
            long = λ t. rw (z, one_more m side_digits) (both_long v (point - at) t g.0 m);
          }
