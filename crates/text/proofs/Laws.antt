-- Laws of the three questions, for any test and any text. A caller cites these, and never unfolds. Assumes nothing.
use mathlib.Core.Path.{◌≡◌, refl, sym, ◌∙◌, ap}
use mathlib.Core.Bool.{Bool, true, false, cond, ◌&&◌, ◌||◌, false≢true, and-true, and-false, and_assoc}
use mathlib.Core.List.{List, [], ◌∷◌, ◌++◌}
use Prim.Native.Nat.{ℕ, zero, suc, ◌+◌, ◌*◌, ◌-◌, ◌^◌, ◌≤◌, ◌<◌, zero-le, suc-le-suc}
use native.Mathlib.Nat.{add-zero, add-suc, suc-add, le_refl, mul_assoc, pow-succ'}
use native.Mathlib.Numerals.{add-one}
use native.Mathlib.Omega.{arith}
use lib.Dec.{eqb, leb}
use borrow.Author.Tests.{eq-eqb, ne_eqb, eqb-true, leb-true}
use lib.ListN.{length, drop, get_or, drop_of_length-le, length-drop}
use lib.Seq.{drop-cons, get_or-drop}
use Rattle.text.specs.Nom.{is_one_of, begins, tagged, run, run_end, decimal, is_digit, is_multispace}

or_again : (b c : Bool) → (b || (b || c)) ≡ (b || c)
or_again true c = refl
or_again false c = refl

-- what is left of a set, tried byte by byte
module _ (set : List ℕ) (b : ℕ) where
  pub set_out : (k : ℕ) → length set ≤ k → is_one_of (drop k set) b ≡ false
  set_out k h = rw (drop_of_length-le set h)

  pub set_hit : (k : ℕ) → k < length set → get_or set k 0 ≡ b → is_one_of (drop k set) b ≡ true
  set_hit k h e = rw (drop-cons set k 0 h, eq-eqb _ _ e)

  pub set_miss : (k : ℕ) → k < length set → (get_or set k 0 ≡ b → ⊥) → is_one_of (drop k set) b ≡ is_one_of (drop (k + 1) set) b
  set_miss k h e = rw (drop-cons set k 0 h, ne_eqb _ _ e, add-one)

-- a set that repeats its last byte is the smaller set
pub same_three : (a b c x : ℕ) → is_one_of (a ∷ b ∷ c ∷ c ∷ []) x ≡ is_one_of (a ∷ b ∷ c ∷ []) x
same_three a b c x = ap (λ (r : Bool). eqb a x || (eqb b x || r)) (or_again (eqb c x) false)

pub same_two : (a b x : ℕ) → is_one_of (a ∷ b ∷ b ∷ b ∷ []) x ≡ is_one_of (a ∷ b ∷ []) x
same_two a b x = same_three a b b x ∙ ap (λ (r : Bool). eqb a x || r) (or_again (eqb b x) false)

pub same_one : (a x : ℕ) → is_one_of (a ∷ a ∷ a ∷ a ∷ []) x ≡ is_one_of (a ∷ []) x
same_one a x = same_two a a x ∙ or_again (eqb a x) false

-- a byte above the space is no blank
pub above_blank : (x : ℕ) → 32 < x → is_multispace x ≡ false
above_blank x h = rw (ne_eqb 32 x (λ e. omega arith), ne_eqb 9 x (λ e. omega arith), ne_eqb 13 x (λ e. omega arith), ne_eqb 10 x (λ e. omega arith))

-- what is known of a tag's bytes so far, with what is left of it against what is left of the text
module _ (tag text : List ℕ) (b : Bool) (at k : ℕ) where
  pub begins_end : length tag ≤ k → (b && begins (drop k tag) (drop (at + k) text)) ≡ b
  unfolding begins
  begins_end h = rw (drop_of_length-le tag h) (and-true b)

  pub begins_step : k < length tag → at + k < length text
      → (b && begins (drop k tag) (drop (at + k) text)) ≡ ((b && eqb (get_or text (at + k) 0) (get_or tag k 0)) && begins (drop (k + 1) tag) (drop (at + (k + 1)) text))
  unfolding begins
  begins_step h l =
      let z : at + (k + 1) ≡ suc (at + k) = omega arith in
      rw (z, drop-cons tag k 0 h, drop-cons text (at + k) 0 l, add-one k) (sym (and_assoc b _ _))

run_long : (p : ℕ → Bool) (s : List ℕ) → run p s ≤ length s
unfolding run
run_long p [] = zero-le
run_long p (x ∷ s) = go (p x) (run_long p s)
  where
    go : (b : Bool) → run p s ≤ length s → cond b (suc (run p s)) 0 ≤ suc (length s)
    go true h = suc-le-suc h
    go false h = zero-le

-- two tests that agree on every byte have the same runs
run_same : (p q : ℕ → Bool) → ((b : ℕ) → p b ≡ q b) → (s : List ℕ) → run p s ≡ run q s
unfolding run
run_same p q h [] = refl
run_same p q h (x ∷ s) = rw (h x, run_same p q h s)

pub run_end_same : (p q : ℕ → Bool) → ((b : ℕ) → p b ≡ q b) → (text : List ℕ) (at : ℕ) → run_end p text at ≡ run_end q text at
unfolding run_end
run_end_same p q h text at = rw (run_same p q h (drop at text))

module _ (p : ℕ → Bool) (text : List ℕ) where
  -- past the end the run is empty
  pub run_out : (i : ℕ) → length text ≤ i → run_end p text i ≡ i
  unfolding run_end run
  run_out i h = rw (drop_of_length-le text h) (add-zero i)

  -- at a byte that fails the test it ends
  pub run_stop : (i : ℕ) → i < length text → p (get_or text i 0) ≡ false → run_end p text i ≡ i
  unfolding run_end run
  run_stop i h e = rw (drop-cons text i 0 h, e) (add-zero i)

  -- past a byte that passes it goes on
  pub run_step : (i : ℕ) → i < length text → p (get_or text i 0) ≡ true → run_end p text i ≡ run_end p text (i + 1)
  unfolding run_end run
  run_step i h e = rw (drop-cons text i 0 h, e, add-one) (add-suc _ _ ∙ sym (suc-add _ _))

  pub run_from : (i : ℕ) → i ≤ run_end p text i
  unfolding run_end
  run_from i = omega arith

  -- a run that is not empty is within the text
  pub run_within : (i : ℕ) → i < run_end p text i → run_end p text i ≤ length text
  unfolding run_end
  run_within i h = omega (arith, run_long p (drop i text), length-drop i text)

-- the digits' value, with acc for those before
module _ (text : List ℕ) where
  pub decimal_out : (acc i : ℕ) → length text ≤ i → decimal acc (drop i text) ≡ acc
  unfolding decimal
  decimal_out acc i h = rw (drop_of_length-le text h)

  pub decimal_stop : (acc i : ℕ) → i < length text → is_digit (get_or text i 0) ≡ false → decimal acc (drop i text) ≡ acc
  unfolding decimal
  decimal_stop acc i h e = rw (drop-cons text i 0 h, e)

  pub decimal_step : (acc i : ℕ) → i < length text → is_digit (get_or text i 0) ≡ true → decimal acc (drop i text) ≡ decimal (acc * 10 + (get_or text i 0 - 48)) (drop (i + 1) text)
  unfolding decimal
  decimal_step acc i h e = rw (drop-cons text i 0 h, e, add-one)

pub decimal_le : (s : List ℕ) (acc : ℕ) → acc ≤ decimal acc s
unfolding decimal
decimal_le [] acc = le_refl acc
decimal_le (x ∷ s) acc = go (is_digit x) (decimal_le s (acc * 10 + (x - 48)))
  where
    go : (b : Bool) → acc * 10 + (x - 48) ≤ decimal (acc * 10 + (x - 48)) s → acc ≤ cond b (decimal (acc * 10 + (x - 48)) s) acc
    go true h = omega arith
    go false h = le_refl acc

pub and_left : (x y : Bool) → (x && y) ≡ true → x ≡ true
and_left true y e = refl
and_left false y e = e

pub and_right : (x y : Bool) → (x && y) ≡ true → y ≡ true
and_right true y e = e
and_right false true e = refl
and_right false false e = e

pub or_false : (b : Bool) → (b || false) ≡ b
or_false true = refl
or_false false = refl

pub digit_bounds : (b : ℕ) → is_digit b ≡ true → (48 ≤ b) × (b ≤ 57)
unfolding is_digit
digit_bounds b e = (leb-true _ _ (and_left (leb 48 b) (leb b 57) e), leb-true _ _ (and_right (leb 48 b) (leb b 57) e))

-- n digits write a number below 10 ^ n; behind digits that write one below b, below b times that
decimal_lt : (s : List ℕ) (acc b : ℕ) → acc < b → decimal acc s < b * 10 ^ run is_digit s
unfolding decimal run
decimal_lt [] acc b h = omega arith
decimal_lt (x ∷ s) acc b h = go (is_digit x) refl (decimal_lt s (acc * 10 + (x - 48)) (b * 10))
  where
    go : (c : Bool) → is_digit x ≡ c → (acc * 10 + (x - 48) < b * 10 → decimal (acc * 10 + (x - 48)) s < b * 10 * 10 ^ run is_digit s)
        → cond c (decimal (acc * 10 + (x - 48)) s) acc < b * 10 ^ cond c (suc (run is_digit s)) 0
    go true q ih = rw (pow-succ' 10 (run is_digit s), ← mul_assoc b 10 (10 ^ run is_digit s)) (ih (omega (arith, (digit_bounds x q).1)))
    go false q ih = omega arith

pub decimal_below : (text : List ℕ) (at : ℕ) → decimal 0 (drop at text) < 10 ^ (run_end is_digit text at - at)
unfolding run_end
decimal_below text at =
    let n = run is_digit (drop at text) in
    let z : at + n - at ≡ n = omega arith in
    rw z (omega (arith, decimal_lt (drop at text) 0 1 (omega arith)))

begins_long : (t s : List ℕ) → begins t s ≡ true → length t ≤ length s
unfolding begins
begins_long [] s e = zero-le
begins_long (t ∷ ts) [] e = absurd (false≢true e)
begins_long (t ∷ ts) (x ∷ s) e = suc-le-suc (begins_long ts s (and_right (eqb x t) (begins ts s) e))

-- a tag that is there is within the text
pub tagged_within : (t text : List ℕ) (at : ℕ) → 0 < length t → tagged t text at ≡ true → at + length t ≤ length text
unfolding tagged
tagged_within t text at h e = omega (arith, begins_long t (drop at text) e, length-drop at text)

-- the place after a tag that is there is below any bound of the place and of the text's length
pub tagged_below : (t text : List ℕ) (at n : ℕ) → at ≤ n → length text ≤ n → tagged t text at ≡ true → at + length t ≤ n
unfolding tagged
tagged_below t text at n h k e = omega (arith, begins_long t (drop at text) e, length-drop at text)

-- one that goes past the text's end is there only if it has no bytes
pub tagged_past : (t text : List ℕ) (at : ℕ) → length text < at + length t → tagged t text at ≡ eqb (length t) 0
unfolding tagged
tagged_past [] text at h = refl
tagged_past (x ∷ t) text at h = go (begins (x ∷ t) (drop at text)) refl ∙ sym (ne_eqb (length (x ∷ t)) 0 (λ e. omega arith))
  where
    go : (b : Bool) → begins (x ∷ t) (drop at text) ≡ b → begins (x ∷ t) (drop at text) ≡ false
    go true q = absurd (omega (arith, begins_long (x ∷ t) (drop at text) q, length-drop at text))
    go false q = q

-- the text does not go on with two tags that begin with different bytes
begins_first : (x y : ℕ) (t u s : List ℕ) → (x ≡ y → ⊥) → begins (x ∷ t) s ≡ true → begins (y ∷ u) s ≡ false
unfolding begins
begins_first x y t u [] h e = refl
begins_first x y t u (b ∷ s) h e = rw (ne_eqb b y (λ q. h (sym (eqb-true b x (and_left (eqb b x) (begins t s) e)) ∙ q)))

pub tagged_first : (x y : ℕ) (t u text : List ℕ) (at : ℕ) → (x ≡ y → ⊥) → tagged (x ∷ t) text at ≡ true → tagged (y ∷ u) text at ≡ false
unfolding tagged
tagged_first x y t u text at h e = begins_first x y t u (drop at text) h e

-- where another byte than t has at place k stands, or none, it does not go on with t
begins_other : (t s : List ℕ) (k : ℕ) → k < length t → (get_or s k 0 ≡ get_or t k 0 → ⊥) → begins t s ≡ false
unfolding begins
begins_other [] s k l h = absurd (omega arith)
begins_other (x ∷ t) [] k l h = refl
begins_other (x ∷ t) (b ∷ s) zero l h = rw (ne_eqb b x h)
begins_other (x ∷ t) (b ∷ s) (suc k) l h = rw (begins_other t s k (omega arith) h) (and-false (eqb b x))

pub tagged_other : (t text : List ℕ) (at k : ℕ) → k < length t → (get_or text (at + k) 0 ≡ get_or t k 0 → ⊥) → tagged t text at ≡ false
unfolding tagged
tagged_other t text at k l h = begins_other t (drop at text) k l (rw (get_or-drop at text k 0) h)

-- at its first place
pub tagged_not : (x : ℕ) (t text : List ℕ) (at : ℕ) → (get_or text at 0 ≡ x → ⊥) → tagged (x ∷ t) text at ≡ false
tagged_not x t text at h = tagged_other (x ∷ t) text at 0 (omega arith) (rw (add-zero at) h)

-- where it does not go on with a tag, it does not go on with a longer one
begins_longer : (t u s : List ℕ) → begins t s ≡ false → begins (t ++ u) s ≡ false
unfolding begins
begins_longer [] u s e = absurd (false≢true (sym e))
begins_longer (x ∷ t) u [] e = refl
begins_longer (x ∷ t) u (b ∷ s) e = go (eqb b x) (begins_longer t u s) e
  where
    go : (c : Bool) → (begins t s ≡ false → begins (t ++ u) s ≡ false) → (c && begins t s) ≡ false → (c && begins (t ++ u) s) ≡ false
    go true ih e = ih e
    go false ih e = refl

pub tagged_longer : (t u text : List ℕ) (at : ℕ) → tagged t text at ≡ false → tagged (t ++ u) text at ≡ false
unfolding tagged
tagged_longer t u text at e = begins_longer t u (drop at text) e

-- a tag of one byte
pub tagged_byte : (c : ℕ) (text : List ℕ) (at : ℕ) → at < length text → tagged (c ∷ []) text at ≡ eqb (get_or text at 0) c
unfolding tagged
tagged_byte c text at h = rw (drop-cons text at 0 h) (and-true (eqb (get_or text at 0) c))
