-- Edges: places beside an ASCII byte, or at an end of the text. Every cut that the reading makes is one, so it cuts no character of UTF-8. Assumes nothing.
use Prim.Native.Nat.{ℕ, zero, suc, ◌+◌, ◌-◌, ◌≤◌, ◌<◌}
use mathlib.Core.Path.{◌≡◌, refl, sym, ◌∙◌, ap}
use mathlib.Core.Bool.{Bool, true, false, cond, ◌&&◌, ◌||◌, false≢true}
use mathlib.Core.List.{List, [], ◌∷◌}
use mathlib.Core.Logic.{◌⊎◌, inl, inr}
use native.Mathlib.Omega.{arith}
use native.Mathlib.Nat.{add-zero}
use lib.Dec.{ltb, eqb}
use lib.ListN.{length, drop, get_or, get_or-eq_default}
use lib.Seq.{get_or-drop}
use borrow.Author.Tests.{eqb-true, ltb-true, not-false}
use Rattle.text.specs.Nom.{is_digit, is_one_of, is_none_of, begins, tagged, after_tag, run, run_end}
use Rattle.text.proofs.Laws.{and_left, and_right, digit_bounds}

pub data Edge (text : List ℕ) (n : ℕ) : Type 0 where
  start : n ≡ 0 → Edge text n
  -- before an ASCII byte, or where no byte is
  before : get_or text n 0 < 128 → Edge text n
  behind : (m : ℕ) → n ≡ suc m → get_or text m 0 < 128 → Edge text n

pub edge_end : (text : List ℕ) (n : ℕ) → length text ≤ n → Edge text n
edge_end text n h = before (rw (get_or-eq_default text 0 h) (omega arith))

-- ---- tests that only ASCII bytes pass, or that all others pass
abbrev pub Ascii : (ℕ → Bool) → Type 0
Ascii p = (b : ℕ) → p b ≡ true → b < 128

abbrev pub plain : List ℕ → Bool
plain [] = true
plain (x ∷ set) = ltb x 128 && plain set

one_of_ascii : (set : List ℕ) → plain set ≡ true → Ascii (is_one_of set)
one_of_ascii [] h b e = absurd (false≢true e)
one_of_ascii (x ∷ set) h b e = go (eqb x b) refl (one_of_ascii set (and_right (ltb x 128) (plain set) h) b) e
  where
    go : (c : Bool) → eqb x b ≡ c → (is_one_of set b ≡ true → b < 128) → (c || is_one_of set b) ≡ true → b < 128
    go true q ih e = rw (← eqb-true x b q) (ltb-true x 128 (and_left (ltb x 128) (plain set) h))
    go false q ih e = ih e

digit_ascii : Ascii is_digit
digit_ascii b e = omega (arith, (digit_bounds b e).1)

-- ---- a run
-- the byte that ends it
run_next : (p : ℕ → Bool) → ((b : ℕ) → p b ≡ false → b < 128) → (s : List ℕ) → get_or s (run p s) 0 < 128
unfolding run
run_next p h [] = omega arith
run_next p h (x ∷ s) = go (p x) refl (run_next p h s)
  where
    go : (b : Bool) → p x ≡ b → get_or s (run p s) 0 < 128 → get_or (x ∷ s) (cond b (suc (run p s)) 0) 0 < 128
    go true e ih = ih
    go false e ih = h x e

-- its last byte
run_last : (p : ℕ → Bool) → Ascii p → (s : List ℕ) → (run p s ≡ 0) ⊎ ((m : ℕ) × (run p s ≡ suc m) × (get_or s m 0 < 128))
unfolding run
run_last p h [] = inl refl
run_last p h (x ∷ s) = go (p x) refl (run_last p h s)
  where
    more : p x ≡ true → (n : ℕ) → (n ≡ 0) ⊎ ((m : ℕ) × (n ≡ suc m) × (get_or s m 0 < 128)) → (suc n ≡ 0) ⊎ ((m : ℕ) × (suc n ≡ suc m) × (get_or (x ∷ s) m 0 < 128))
    more e n (inl z) = inr (0, ap suc z, h x e)
    more e n (inr w) = inr (suc w.0, ap suc w.1, w.2)

    go : (b : Bool) → p x ≡ b → (run p s ≡ 0) ⊎ ((m : ℕ) × (run p s ≡ suc m) × (get_or s m 0 < 128))
        → (cond b (suc (run p s)) 0 ≡ 0) ⊎ ((m : ℕ) × (cond b (suc (run p s)) 0 ≡ suc m) × (get_or (x ∷ s) m 0 < 128))
    go true e ih = more e (run p s) ih
    go false e ih = inl refl

module _ (text : List ℕ) (at : ℕ) where
  -- a run of none of these bytes ends before one of them
  pub none_of_ends : (set : List ℕ) → plain set ≡ true → get_or text (run_end (is_none_of set) text at) 0 < 128
  unfolding run_end
  none_of_ends set h =
      let s = drop at text in
      rw (← get_or-drop at text (run (is_none_of set) s) 0) (run_next (is_none_of set) (λ b e. one_of_ascii set h b (not-false (is_one_of set b) e)) s)

  ascii_ends : (p : ℕ → Bool) → Ascii p → Edge text at → Edge text (run_end p text at)
  unfolding run_end
  ascii_ends p h e = go (run p (drop at text)) (run_last p h (drop at text))
    where
      go : (n : ℕ) → (n ≡ 0) ⊎ ((m : ℕ) × (n ≡ suc m) × (get_or (drop at text) m 0 < 128)) → Edge text (at + n)
      go n (inl z) = rw (z, add-zero at) e
      go n (inr w) = behind (at + w.0) (omega (arith, w.1)) (rw (← get_or-drop at text w.0 0) w.2)

  pub one_of_ends : (set : List ℕ) → plain set ≡ true → Edge text at → Edge text (run_end (is_one_of set) text at)
  one_of_ends set h = ascii_ends (is_one_of set) (one_of_ascii set h)

  pub digits_end : Edge text at → Edge text (run_end is_digit text at)
  digits_end = ascii_ends is_digit digit_ascii

  -- behind an ASCII byte
  pub one_ends : get_or text at 0 < 128 → Edge text (at + 1)
  one_ends h = behind at (omega arith) h

-- ---- a fixed text
begins_byte : (t s : List ℕ) (i : ℕ) → i < length t → begins t s ≡ true → get_or s i 0 ≡ get_or t i 0
unfolding begins
begins_byte [] s i h e = absurd (omega arith)
begins_byte (y ∷ t) [] i h e = absurd (false≢true e)
begins_byte (y ∷ t) (x ∷ s) zero h e = eqb-true x y (and_left (eqb x y) (begins t s) e)
begins_byte (y ∷ t) (x ∷ s) (suc i) h e = begins_byte t s i (omega arith) (and_right (eqb x y) (begins t s) e)

module _ (text : List ℕ) (at : ℕ) (t : List ℕ) (some : 0 < length t) (last : get_or t (length t - 1) 0 < 128) where
  pub tag_ends : tagged t text at ≡ true → Edge text (at + length t)
  unfolding tagged
  tag_ends e =
      let k = length t - 1 in
      let b : get_or text (at + k) 0 ≡ get_or t k 0 = sym (get_or-drop at text k 0) ∙ begins_byte t (drop at text) k (omega arith) e in
      behind (at + k) (omega arith) (rw b last)

  pub after_ends : Edge text at → Edge text (after_tag t text at)
  unfolding after_tag
  after_ends h = go (tagged t text at) refl
    where
      go : (b : Bool) → tagged t text at ≡ b → Edge text (cond b (at + length t) at)
      go true q = tag_ends q
      go false q = h
