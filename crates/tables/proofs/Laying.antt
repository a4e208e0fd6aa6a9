-- Records laid one after the other, of any width: what is laid so far stands at the table's front, and the rest is as it was. Rests on `stored_behind`.
-- And what a call that lays them has in hand at its ways out; no second result fits its promise. Assumes nothing.
use mathlib.Core.Path.{◌≡◌, refl, sym, ◌∙◌, subst}
use mathlib.Core.Bool.{true}
use mathlib.Core.List.{List, ◌++◌, append_assoc}
use mathlib.Core.Logic.{⊎_elim}
use Prim.Native.Nat.{ℕ, zero, suc, ◌+◌, ◌*◌, ◌<◌}
use native.Mathlib.Nat.{zero-mul, suc-mul, mul-le-mul_right, le_trans, eq-or-lt_of_le, le_of_suc-le-suc}
use native.Mathlib.Numerals.{add-one}
use native.Mathlib.Omega.{arith}
use lib.ListN.{length, drop, get_or, length-append}
use Rattle.std.specs.Prelude.{Result}
use Rattle.tables.specs.declared.Refusal as refusalᵈ
use Rattle.tables.specs.Refusal.{Refusal, Answer, refused, given, laid}
use Rattle.tables.specs.Answers.{laid_of, LaidAs}
use Rattle.tables.specs.Table.{records, fits, word_at, stored}
use Rattle.tables.proofs.Refusals.{answer_only}
use Rattle.tables.proofs.Records.{fits_words}
use Rattle.tables.proofs.Sets.{words_back, stored_behind}

-- a table whose first k records are laid
abbrev pub laid_to : (ℕ → List ℕ) → ℕ → List ℕ → List ℕ
laid_to at k out = records at k ++ drop (length (records at k)) out

pub records_none : (at : ℕ → List ℕ) (out : List ℕ) → laid_to at 0 out ≡ out
unfolding records
records_none at out = refl

module _ (w : ℕ) (at : ℕ → List ℕ) (wide : (k : ℕ) → length (at k) ≡ w) where
  pub records_length : (k : ℕ) → length (records at k) ≡ k * w
  unfolding records
  records_length zero = sym (zero-mul w)
  records_length (suc k) = length-append (records at k) (at k) ∙ omega (arith, records_length k, wide k, suc-mul k w)

  -- one record more
  pub record_laid : (n k : ℕ) (out : List ℕ) → fits w out n ≡ true → k < n → stored w (laid_to at k out) k (at k) ≡ laid_to at (k + 1) out
  unfolding records
  record_laid n k out f h = rw (add-one k) (stored_behind w k out (records at k) (at k) (records_length k) (wide k) (le_trans (mul-le-mul_right w (omega arith)) (fits_words w n out f)))

  -- the words of record k, wherever it stands among the others
  pub word_of : (m k i : ℕ) (rest : List ℕ) → k < m → i < w → word_at w (records at m ++ rest) k i ≡ get_or (at k) i 0
  unfolding records
  word_of zero k i rest h l = omega arith
  word_of (suc m) k i rest h l =
      let e : (records at m ++ at m) ++ rest ≡ records at m ++ (at m ++ rest) = append_assoc (records at m) (at m) rest in
      rw e
      (⊎_elim
      (λ q. subst (λ (x : ℕ). word_at w (records at m ++ (at m ++ rest)) x i ≡ get_or (at x) i 0) (sym q) (words_back w m i (records at m) (at m) rest (records_length m) (wide m) l))
      (λ q. word_of m k i (at m ++ rest) q l)
      (eq-or-lt_of_le (le_of_suc-le-suc h)))

-- ---- a call that fills a lent table
module _ (answer : Answer ℕ) (ws out : List ℕ) (r : Result ℕ refusalᵈ.Refusal) where
  pub as_refused : (x : Refusal) → laid_of r ≡ refused x 0 → answer ≡ refused x 0 → LaidAs answer ws out out r
  as_refused x v e = record { answered = v ∙ sym e; out_after = rw e }

  pub as_given : (n : ℕ) (after : List ℕ) → laid_of r ≡ given n → answer ≡ given n → after ≡ laid (given n) ws out → LaidAs answer ws out after r
  as_given n after v e a = record { answered = v ∙ sym e; out_after = rw e a }

module _ {answer : Answer ℕ} {ws out₀ out out' : List ℕ} {r r' : Result ℕ refusalᵈ.Refusal} (p : LaidAs answer ws out₀ out r) (q : LaidAs answer ws out₀ out' r') where
  pub laid_once : r ≡ r'
  laid_once = answer_only (λ n. n) (λ n. n) (λ n. refl) answer r r' p.answered q.answered

  pub out_once : out ≡ out'
  out_once = p.out_after ∙ sym q.out_after
