-- An answer is determined: no second one meets a contract, since from what an answer says (its view) there is a way back to it. Assumes nothing.
use Prim.Native.Nat.{ℕ, ◌+◌, ◌-◌}
use mathlib.Core.Path.{◌≡◌, refl, ap}
use mathlib.Core.Bool.{Bool, true, false}
use native.Mathlib.Omega.{arith}
use Rattle.std.specs.Prelude.{Option, None, Some}
use Rattle.text.specs.Nom.{Res, fail, ok}
use Rattle.text.proofs.Only.{Only, only_by}
use Rattle.utf8.specs.Answers.{taken, char_of}

-- ---- characters
abbrev taken_back : Res (Unit {0}) → Bool
taken_back (fail why) = false
taken_back (ok u n) = true

pub taken_only : (n : ℕ) → Only (λ b. taken b n)
unfolding taken
taken_only n = only_by (λ b. taken b n) taken_back go
  where
    go : (b : Bool) → taken_back (taken b n) ≡ b
    go true = refl
    go false = refl

abbrev char_back : ℕ → Res (Unit {0}) → Option ℕ
char_back at (fail why) = None
char_back at (ok u n) = Some (n - at)

pub char_only : (at : ℕ) → Only (λ n. char_of n at)
char_only at = only_by (λ n. char_of n at) (char_back at) go
  where
    go : (n : Option ℕ) → char_back at (char_of n at) ≡ n
    go None = refl
    go (Some n) = let z : at + n - at ≡ n = omega arith in ap Some z
