-- The comparisons that keep a count and an index from overflowing, over any width. The functions of `record` cite these.
-- Assumes nothing.
use mathlib.Core.Path.{◌≡◌, refl, sym, ◌∙◌}
use mathlib.Core.Bool.{Bool, true, false}
use mathlib.Core.List.{List}
use Prim.Native.Nat.{ℕ, ◌+◌, ◌-◌, ◌*◌, ◌/◌, ◌≤◌, ◌<◌}
use native.Mathlib.Nat.{le-div_iff_mul-le, div-lt_iff_lt-mul}
use native.Mathlib.Omega.{arith}
use lib.ListN.{length}
use lib.Dec.{leb}
use borrow.Author.Tests.{leb-true, leb-false, le-leb, lt-leb}
use Rattle.tables.specs.Table.{fits}

-- n records of w words fit exactly where n is at most the quotient
pub fits_quotient : (w n : ℕ) (t : List ℕ) → 0 < w → leb n (length t / w) ≡ fits w t n
unfolding fits
fits_quotient w n t h = go (leb n (length t / w)) refl
  where
    go : (b : Bool) → leb n (length t / w) ≡ b → b ≡ leb (n * w) (length t)
    go true e = sym (le-leb (n * w) (length t) ((le-div_iff_mul-le h).0 (leb-true n (length t / w) e)))
    go false e = sym (lt-leb (n * w) (length t) ((div-lt_iff_lt-mul h).0 (leb-false n (length t / w) e)))

-- record k fits where k is below the quotient, and not where it isn't
module _ (w k : ℕ) (t : List ℕ) (h : 0 < w) where
  pub fits_next : k < length t / w → fits w t (k + 1) ≡ true
  fits_next q = sym (fits_quotient w (k + 1) t h) ∙ le-leb (k + 1) (length t / w) (omega arith)

  -- all its words are there
  pub next_held : k < length t / w → (k + 1) * w ≤ length t
  next_held q = (le-div_iff_mul-le h).0 (omega arith)

  pub fits_not : length t / w ≤ k → fits w t (k + 1) ≡ false
  fits_not q = sym (fits_quotient w (k + 1) t h) ∙ lt-leb (k + 1) (length t / w) (omega arith)

-- what fits is there, and what is there fits
pub fits_words : (w n : ℕ) (t : List ℕ) → fits w t n ≡ true → n * w ≤ length t
unfolding fits
fits_words w n t e = leb-true (n * w) (length t) e

pub words_fit : (w n : ℕ) (t : List ℕ) → n * w ≤ length t → fits w t n ≡ true
unfolding fits
words_fit w n t h = le-leb (n * w) (length t) h

-- record k's place i lies in the table, or past its end, as k is at most the quotient of the words from the place on
module _ (w l i k : ℕ) (h : 0 < w) (b : i < l) where
  pub word_within : k ≤ (l - i - 1) / w → k * w + i < l
  word_within q = omega (arith, (le-div_iff_mul-le h).0 q)

  pub word_past : (l - i - 1) / w < k → l ≤ k * w + i
  word_past q = omega (arith, (div-lt_iff_lt-mul h).0 q)
