-- nom's many0 and fold_many0, and the crate's loops over lines: a rule again and again, until it fails. Assumes nothing.
use Rattle.std.specs.Prelude.{ℕ, zero, suc, ◌-◌, List, [], ◌∷◌, length}
use Rattle.text.specs.Nom.{Res, fail, ok, Parser}

-- what was taken, in order, and the place where the rule failed
pub data Many (A : Type 0) : Type 0 where
  many : List A → ℕ → Many A

module _ {A : Type 0} where
  abbrev pub items : Many A → List A
  items (many xs n) = xs

  abbrev pub stop : Many A → ℕ
  stop (many xs n) = n

  abbrev pub push : A → Many A → Many A
  push a (many xs n) = many (a ∷ xs) n

  abbrev pub go_on : Res A → ℕ → (ℕ → Many A) → Many A
  go_on (fail why) at k = many [] at
  go_on (ok a n) at k = push a (k n)

  -- as a rule, which never fails
  abbrev pub collected : Many A → Res (List A)
  collected (many xs n) = ok xs n

module _ {A : Type 0} (p : Parser A) (text : List ℕ) where
  -- at most `turns` times
  unfoldable pub many_turns : ℕ → ℕ → Many A
  many_turns zero at = many [] at
  many_turns (suc turns) at = go_on (p text at) at (λ n. many_turns turns n)

  -- a rule that takes a byte each time has no more turns than there are bytes left
  unfoldable pub many0 : ℕ → Many A
  many0 at = many_turns (length text - at) at
