-- Laws of blocks: what a test of all their bytes tells of each of them, and so of the runs that they are part of. Assumes nothing.
use mathlib.Core.Path.{◌≡◌, refl, sym, ◌∙◌, ap}
use mathlib.Core.Bool.{Bool, true, false, not, ◌&&◌, ◌||◌}
use mathlib.Core.List.{List, [], ◌∷◌}
use Prim.Native.Nat.{ℕ, zero, suc, ◌+◌, ◌-◌, ◌≤◌, ◌<◌}
use native.Mathlib.Nat.{add-zero, le_of_suc-le-suc, not-suc-le-zero}
use native.Mathlib.Decide.{dec_le}
use native.Mathlib.Omega.{arith}
use lib.Dec.{leb, eqb}
use lib.ListN.{length, get_or, take, drop, length-drop, length-take}
use lib.Seq.{get_or-take, get_or-drop, take-length}
use borrow.Author.Tests.{ne_eqb, leb-true}
use Rattle.std.specs.List.{list_all}
use Rattle.std.proofs.lemmas.List.Folds.{list_all_more, list_any_more}
use Rattle.text.specs.Nom.{bytes, is_one_of, is_none_of, run_end}
use Rattle.text.proofs.Laws.{and_left, and_right, run_out, run_stop}
use Rattle.text.proofs.Stretches.{run_on}
use Rattle.scan.proofs.Sets.{any}
use Rattle.words.proofs.Eight.{none_of_all}

-- ---- all elements of a list
module _ {X : Type 0} (p : X → Bool) where
  pub all_at : (xs : List X) (i : ℕ) (d : X) → list_all p xs ≡ true → i < length xs → p (get_or xs i d) ≡ true
  all_at [] i d e h = absurd (not-suc-le-zero h)
  all_at (x ∷ xs) zero d e h = and_left (p x) _ e
  all_at (x ∷ xs) (suc i) d e h = all_at xs i d (and_right (p x) _ e) (le_of_suc-le-suc h)

  -- a test that asks less
  pub all_less : (q : X → Bool) → ((x : X) → p x ≡ true → q x ≡ true) → (xs : List X) → list_all p xs ≡ true → list_all q xs ≡ true
  all_less q h [] e = refl
  all_less q h (x ∷ xs) e = rw (h x (and_left (p x) _ e), all_less q h xs (and_right (p x) _ e))

-- one more element is looked at
pub all_on : {X : Type 0} (p : X → Bool) (xs : List X) (i : ℕ) (d : X) (b : Bool) → i < length xs → b ≡ list_all p (take i xs) → (b && p (get_or xs i d)) ≡ list_all p (take (i + 1) xs)
all_on p xs i d b h e = ap (λ c. c && p (get_or xs i d)) e ∙ sym (list_all_more p xs i d h)

pub all_out : {X : Type 0} (p : X → Bool) (xs : List X) (i : ℕ) (b : Bool) → length xs ≡ i → b ≡ list_all p (take i xs) → b ≡ list_all p xs
all_out p xs i b h e = e ∙ ap (list_all p) (ap (λ (k : ℕ). take k xs) (sym h) ∙ take-length xs)

-- one more byte of a set is tried
pub one_on : (x : ℕ) (set : List ℕ) (i : ℕ) (b : Bool) → i < length set → b ≡ is_one_of (take i set) x → (b || eqb (get_or set i 0) x) ≡ is_one_of (take (i + 1) set) x
one_on x set i b h e =
    ap (λ c. c || eqb (get_or set i 0) x) (e ∙ sym (any (take i set) x)) ∙ sym (list_any_more (λ y. eqb y x) set i 0 h) ∙ any (take (i + 1) set) x

pub one_out : (x : ℕ) (set : List ℕ) (i : ℕ) (b : Bool) → length set ≡ i → b ≡ is_one_of (take i set) x → b ≡ is_one_of set x
one_out x set i b h e = e ∙ ap (λ s. is_one_of s x) (ap (λ (k : ℕ). take k set) (sym h) ∙ take-length set)

-- bytes among which none of a set is, each looked for apart
pub none_all : (set block : List ℕ) → ((j : ℕ) → j < length set → list_all (λ x. not (eqb (get_or set j 0) x)) block ≡ true) → list_all (is_none_of set) block ≡ true
none_all set [] h = refl
none_all set (x ∷ block) h =
    rw (
      none_of_all set x (λ j n l. not_true (eqb (get_or set j 0) x) (and_left (not (eqb (get_or set j 0) x)) _ (h j l))),
      none_all set block (λ j l. and_right (not (eqb (get_or set j 0) x)) _ (h j l)),
    )
  where
    not_true : (b : Bool) → not b ≡ true → b ≡ false
    not_true true e = sym e
    not_true false e = refl

-- ---- a run goes on past a block that passes
pub run_past : (p : ℕ → Bool) (text : List ℕ) (a n : ℕ) → a + n ≤ length text → list_all p (take n (drop a text)) ≡ true → run_end p text a ≡ run_end p text (a + n)
run_past p text a n h e = run_on p text a (a + n) (omega arith) (λ j m l. (omega arith, at j m l))
  where
    at : (j : ℕ) → a ≤ j → j < a + n → p (get_or text j 0) ≡ true
    at j m l =
        let len : n ≤ length (drop a text) = omega (arith, length-drop a text) in
        let z : a + (j - a) ≡ j = omega arith in
        let byte : get_or (take n (drop a text)) (j - a) 0 ≡ get_or text j 0 =
        get_or-take n (drop a text) (j - a) 0 (omega arith) ∙ get_or-drop a text (j - a) 0 ∙ ap (λ i. get_or text i 0) z in
        ap p (sym byte) ∙ all_at p (take n (drop a text)) (j - a) 0 e (omega (arith, length-take n (drop a text), len))

-- ---- what the tests of a block's bytes ask
-- a byte above CR ends no line
pub above_cr : (x : ℕ) → (leb 14 x && leb x 255) ≡ true → is_none_of (bytes "\r\n") x ≡ true
above_cr x e = let l = leb-true 14 x (and_left (leb 14 x) _ e) in rw (ne_eqb 13 x (λ q. omega (arith, l)), ne_eqb 10 x (λ q. omega (arith, l)))

-- a run is empty where a byte stands that fails its test, or none
pub run_none : (p : ℕ → Bool) (text : List ℕ) (at b : ℕ) → b ≡ get_or text (at + 0) 0 → p b ≡ false → run_end p text at ≡ at
run_none p text at b f e = go (dec_le (length text) at)
  where
    go : Dec (length text ≤ at) → run_end p text at ≡ at
    go (yes h) = run_out p text at h
    go (no h) = run_stop p text at (omega arith) (ap p (ap (λ i. get_or text i 0) (sym (add-zero at)) ∙ sym f) ∙ e)
