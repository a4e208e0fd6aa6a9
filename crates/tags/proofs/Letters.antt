-- Which rows can match at all, by one byte of theirs: a text does not stand there where another byte does at the same place, so only the rows with that byte need
-- be tried. At place 0 all have `#`; at place 7 they differ most. Assumes nothing.
use Prim.Native.Nat.{ℕ, ◌+◌, ◌≤◌}
use mathlib.Core.Path.{◌≡◌, refl, sym, ◌∙◌, ap}
use mathlib.Core.Bool.{Bool, true, false, cond, false≢true}
use mathlib.Core.List.{List, [], ◌∷◌}
use native.Mathlib.Omega.{arith}
use lib.Dec.{ltb, eqb}
use lib.ListN.{length, get_or}
use borrow.Author.Tests.{ltb-true, eqb-true, eqb-false}
use Rattle.text.specs.Why.{other_text}
use Rattle.text.specs.Nom.{fail, tagged, is_one_of}
use Rattle.text.proofs.Laws.{tagged_other, and_left, and_right}
use Rattle.tags.specs.Tags.{Row, literal, reads, matched}
use Rattle.tags.proofs.Rows.{hold_all}

-- ---- the rows' bytes at a place, computed
abbrev pub byte_at : ℕ → Row → ℕ
byte_at k r = get_or (literal r) k 0

-- the rows with byte c at place k
abbrev pub with_byte_lem : ℕ → ℕ → List Row → List Row
with_byte_lem k c [] = []
with_byte_lem k c (r ∷ rs) = cond (eqb c (byte_at k r)) (r ∷ with_byte_lem k c rs) (with_byte_lem k c rs)

-- each byte that a row has at place k, once; the last comes first
abbrev bytes_after : ℕ → List ℕ → List Row → List ℕ
bytes_after k seen [] = seen
bytes_after k seen (r ∷ rs) = bytes_after k (cond (is_one_of seen (byte_at k r)) seen (byte_at k r ∷ seen)) rs

abbrev pub bytes_at : ℕ → List Row → List ℕ
bytes_at k rs = bytes_after k [] rs

-- none of these, as a `match` says it of what is left: an arm for each, the last one's first
abbrev pub NoneOf : List ℕ → ℕ → Type 0
NoneOf [] x = Unit {0}
NoneOf (c ∷ cs) x = NoneOf cs x × (x ≡ c → ⊥)

none_is : (cs : List ℕ) (x : ℕ) → NoneOf cs x → (c : ℕ) → is_one_of cs c ≡ true → x ≡ c → ⊥
none_is [] x n c e q = false≢true e
none_is (d ∷ cs) x n c e q = go (eqb d c) refl (λ e. none_is cs x n.0 c e q)
  where
    go : (b : Bool) → eqb d c ≡ b → (is_one_of cs c ≡ true → ⊥) → ⊥
    go true h ih = n.1 (q ∙ sym (eqb-true d c h))
    go false h ih = ih (rw h at e)

-- texts of more than seven bytes
abbrev pub long : Row → Bool
long r = ltb 7 (length (literal r))

-- ---- the text has byte c at place k
module _ (text : List ℕ) (at k : ℕ) (small : k ≤ 7) {c : ℕ} (seen : c ≡ get_or text (at + k) 0) where
  other_byte : (r : Row) → long r ≡ true → (c ≡ byte_at k r → ⊥) → tagged (literal r) text at ≡ false
  other_byte r l h = tagged_other (literal r) text at k (omega (arith, ltb-true 7 (length (literal r)) l)) (λ q. h (seen ∙ q))

  -- only the rows with that byte need be tried
  with_byte : (rs : List Row) → hold_all long rs ≡ true → matched (with_byte_lem k c rs) text at ≡ matched rs text at
  unfolding matched
  with_byte [] l = refl
  with_byte (r ∷ rs) l = go (eqb c (byte_at k r)) refl (with_byte rs (and_right (long r) (hold_all long rs) l))
    where
      go : (b : Bool) → eqb c (byte_at k r) ≡ b → matched (with_byte_lem k c rs) text at ≡ matched rs text at
          → matched (cond b (r ∷ with_byte_lem k c rs) (with_byte_lem k c rs)) text at ≡ cond (tagged (literal r) text at) (reads r text at) (matched rs text at)
      go true e ih = ap (cond (tagged (literal r) text at) (reads r text at)) ih
      go false e ih = rw (other_byte r (and_left (long r) (hold_all long rs) l) (eqb-false c (byte_at k r) e)) ih

  pub by_byte : {x : ℕ} → c ≡ x → (rs : List Row) → hold_all long rs ≡ true → matched (with_byte_lem k x rs) text at ≡ matched rs text at
  by_byte is rs l = rw is at (with_byte rs l)

  -- and where no row has it, none matches
  pub no_byte : (cs : List ℕ) → NoneOf cs c → (rs : List Row) → hold_all long rs ≡ true → hold_all (λ r. is_one_of cs (byte_at k r)) rs ≡ true → matched rs text at ≡ fail other_text
  unfolding matched
  no_byte cs n [] l e = refl
  no_byte cs n (r ∷ rs) l e =
      let is = is_one_of cs (byte_at k r) in
      let all = hold_all (λ r. is_one_of cs (byte_at k r)) rs in
      rw (other_byte r (and_left (long r) (hold_all long rs) l) (none_is cs c n (byte_at k r) (and_left is all e))) (no_byte cs n rs (and_right (long r) (hold_all long rs) l) (and_right is all e))
