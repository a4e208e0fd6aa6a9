-- What a test of bytes says of its row: octet by octet, then row by row. Assumes nothing.
use Prim.Native.Nat.{ℕ, ◌+◌, ◌<◌}
use mathlib.Core.Path.{◌≡◌, refl, sym, ◌∙◌, ap}
use mathlib.Core.Bool.{Bool, true, false, ◌&&◌, and_assoc}
use mathlib.Core.List.{List, [], ◌∷◌}
use native.Mathlib.Nat.{add-zero}
use native.Mathlib.Omega.{arith}
use lib.ListN.{length, get_or}
use borrow.Author.Tests.{lt-ltb}
use Rattle.text.specs.Why.{missing_byte}
use Rattle.text.specs.Nom.{Res, fail, ok, or_else, bind}
use Rattle.text.specs.Utf8.{Octet, ◌to◌, Row, in_octet, octet, octets, one_of}
use Rattle.text.proofs.Utf8.{above, row_decides, row_fails}
use Rattle.utf8.specs.Answers.{taken}

pub taken_yes : {b : Bool} {n : ℕ} {r : Res (Unit {0})} → taken b n ≡ r → b ≡ true → r ≡ ok tt n
unfolding taken
taken_yes {b} {n} e h = sym e ∙ ap (λ (t : Bool). taken t n) h

pub taken_no : {b : Bool} (n : ℕ) {r : Res (Unit {0})} → taken b n ≡ r → b ≡ false → r ≡ fail missing_byte
unfolding taken
taken_no n e h = sym e ∙ ap (λ (t : Bool). taken t n) h

-- three tests, joined from the left
pub from_left : (a b c : Bool) (n : ℕ) {r : Res (Unit {0})} → taken (a && (b && c)) n ≡ r → taken (a && b && c) n ≡ r
from_left a b c n e = ap (λ (t : Bool). taken t n) (and_assoc a b c) ∙ e

-- a byte that is there
pub octet_here : (lo hi : ℕ) (text : List ℕ) (i : ℕ) → i < length text → taken (in_octet (lo to hi) (get_or text i 0)) (i + 1) ≡ octet (lo to hi) text i
unfolding taken octet
octet_here lo hi text i h = rw (lt-ltb i (length text) h)

module _ (text : List ℕ) (at : ℕ) where
  -- ---- octets, one after the other: `Octets k m os b` says that the test b tells of os from place k on, which end m places after `at`
  abbrev pub Octets : ℕ → ℕ → Row → Bool → Type 0
  Octets k m os b = taken b (at + m) ≡ octets os text (at + k)

  pub last : (k : ℕ) (o : Octet) (b : Bool) → taken b (at + k + 1) ≡ octet o text (at + k) → Octets k (k + 1) (o ∷ []) b
  unfolding taken octets
  last k o true e = rw (← e) (ap (ok tt) (omega arith))
  last k o false e = rw (← e)

  pub then : (k m : ℕ) (o : Octet) (os : Row) (a b : Bool) → taken a (at + k + 1) ≡ octet o text (at + k) → Octets (k + 1) m os b → Octets k m (o ∷ os) (a && b)
  unfolding taken octets
  then k m o os true b e f = let z : at + k + 1 ≡ at + (k + 1) = omega arith in rw (← e, z) f
  then k m o os false b e f = rw (← e)

  -- ---- no row is left
  pub none_left : (n : ℕ) → taken false n ≡ one_of [] text at
  unfolding taken one_of
  none_left n = refl

  -- ---- the first octet of a row
  module _ (lo hi : ℕ) (os : Row) (rs : List Row) (a : Bool) (e : taken a (at + 0 + 1) ≡ octet (lo to hi) text (at + 0)) where
    first : taken a (at + 1) ≡ octet (lo to hi) text at
    first = rw add-zero at e

    -- is there: the rest of the row has the answer
    pub row_there : a ≡ true → above hi rs ≡ true → (m : ℕ) (b : Bool) → Octets 1 m os b → taken b (at + m) ≡ one_of ((lo to hi ∷ os) ∷ rs) text at
    unfolding taken
    row_there h q m b f = row_decides text at lo hi os rs b (at + m) q (taken_yes first h) f

    -- is not there: the rows behind have it
    pub row_past : a ≡ false → one_of rs text at ≡ one_of ((lo to hi ∷ os) ∷ rs) text at
    row_past h = row_fails text at (lo to hi) os rs (taken_no (at + 1) first h)

    -- is all of the only row
    pub row_alone : os ≡ [] → rs ≡ [] → taken a (at + 1) ≡ one_of ((lo to hi ∷ os) ∷ rs) text at
    unfolding taken one_of octets
    row_alone p q = rw (p, q, ← first) (go a)
      where
        go : (a : Bool) → taken a (at + 1) ≡ or_else (bind (taken a (at + 1)) (λ _ n. ok tt n)) (fail missing_byte)
        go true = refl
        go false = refl
