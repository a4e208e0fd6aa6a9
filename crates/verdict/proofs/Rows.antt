-- Laws of the rows, whatever their texts: what of a text is computed for all of them at once (`hold_all`, by `refl`). Assumes nothing.
use Prim.Native.Nat.{ℕ, ◌+◌, ◌≤◌, ◌<◌}
use mathlib.Core.Path.{◌≡◌}
use mathlib.Core.Bool.{Bool, true, false, ◌&&◌}
use mathlib.Core.List.{List, [], ◌∷◌}
use lib.Dec.{ltb}
use lib.ListN.{length}
use borrow.Author.Tests.{lt-ltb, le-ltb}
use Rattle.text.specs.Why.{other_text, missing_byte}
use Rattle.text.specs.Nom.{fail, ok, bytes, is_none_of, run_end, tagged}
use Rattle.text.proofs.Laws.{and_left, and_right}
use Rattle.verdict.specs.Verdict.{Row, fixed, undashed, literal, reads}

-- a row's text has a byte at place k
abbrev pub longer : ℕ → Row → Bool
longer k r = ltb k (length (literal r))

-- a test of every row
abbrev pub hold_all : (Row → Bool) → List Row → Bool
hold_all t [] = true
hold_all t (r ∷ rs) = t r && hold_all t rs

module _ (t : Row → Bool) (r : Row) (rs : List Row) (h : hold_all t (r ∷ rs) ≡ true) where
  pub holds_first : t r ≡ true
  holds_first = and_left (t r) (hold_all t rs) h

  pub hold_rest : hold_all t rs ≡ true
  hold_rest = and_right (t r) (hold_all t rs) h

module _ (text : List ℕ) (at : ℕ) where
  -- a row whose text is not there fails for that reason
  pub row_not : (r : Row) → tagged (literal r) text at ≡ false → reads r text at ≡ fail other_text
  row_not (fixed t k) e = rw e
  row_not (undashed t k) e = rw e

  -- one whose text is there needs a run behind it, up to the next `-`
  module _ (t : List ℕ) (k : Bool) (dash : ℕ) (e : tagged t text at ≡ true) (r : dash ≡ run_end (is_none_of (bytes "-")) text (at + length t)) where
    pub undashed_not : dash ≤ at + length t → reads (undashed t k) text at ≡ fail missing_byte
    undashed_not h = rw (e, ← r, le-ltb (at + length t) dash h)

    pub undashed_here : at + length t < dash → reads (undashed t k) text at ≡ ok k dash
    undashed_here h = rw (e, ← r, lt-ltb (at + length t) dash h)
