-- Lines that several programs print, byte for byte. Assumes nothing.
use Rattle.std.specs.Prelude.{ℕ, List, ◌++◌}
use Rattle.text.specs.Nom.{bytes}
use Rattle.digits.specs.Digits.{number_text}

-- a number that ends a line, and one before a tab: "tab between fields"
unfoldable pub number_line : ℕ → List ℕ
number_line n = number_text n ++ bytes "\n"

unfoldable pub field : ℕ → List ℕ
field n = number_text n ++ bytes "\t"

-- "A refusal prints only `refused 5 at 8` with its own numbers."
unfoldable pub refused_line : ℕ → ℕ → List ℕ
refused_line number place = bytes "refused " ++ (number_text number ++ (bytes " at " ++ number_line place))
