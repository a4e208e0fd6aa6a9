-- A text that is a list of lines, for any kind of line. Assumes nothing.
use Rattle.std.specs.Prelude.{ℕ}
use mathlib.Core.List.{List, [], ◌∷◌, ◌++◌}

module _ {L : Type 0} (lineBytes : L → List ℕ) where
  unfoldable pub unlines : List L → List ℕ
  unlines [] = []
  unlines (l ∷ ls) = lineBytes l ++ unlines ls

  -- each line asks something of itself and of what follows it
  unfoldable pub AllFit : (L → List ℕ → Type 0) → List L → List ℕ → Type 0
  unfolding unlines
  AllFit Fits [] xs = Unit {0}
  AllFit Fits (l ∷ ls) xs = Fits l (unlines ls ++ xs) × AllFit Fits ls xs
