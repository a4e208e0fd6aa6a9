-- Bytes put into a lent output, one behind the other from a place on. Where the output ends, what is left of them is lost. Assumes nothing.
use Rattle.std.specs.Prelude.{ℕ, ◌+◌, ◌≡◌, cond, List, [], ◌∷◌, ltb, set, length}

-- an output, and the place that was reached in it
pub data Output : Type 0 where
  up_to : List ℕ → ℕ → Output

unfoldable pub put_byte : Output → ℕ → Output
put_byte (up_to out at) b = cond (ltb at (length out)) (up_to (set out at b) (at + 1)) (up_to out at)

unfoldable pub put : Output → List ℕ → Output
put o [] = o
put o (b ∷ bs) = put (put_byte o b) bs

-- all that a call says which puts these bytes into `out₀` from `at` on: the output after it, and the place that it answers
pub record Puts (out₀ : List ℕ) (at : ℕ) (bs out : List ℕ) (r : ℕ) : Type 0 where
  pub after : up_to out r ≡ put (up_to out₀ at) bs
