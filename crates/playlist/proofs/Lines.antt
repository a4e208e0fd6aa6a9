-- The bytes of lines: one by one, some and then others, and those that may be missing. Assumes nothing.
use mathlib.Core.Path.{◌≡◌, refl, ◌∙◌}
use mathlib.Core.Bool.{Bool, true, false, cond}
use mathlib.Core.List.{List, [], ◌∷◌, ◌++◌, append-nil, append_assoc}
use Prim.Native.Nat.{ℕ, zero, suc}
use lib.Dec.{eqb, eqb-suc-zero}
use Rattle.text.specs.Lines.{unlines}
use Rattle.playlist.specs.Lines.{Line, line_bytes, line_where, line_unless_zero, lines_text}

pub no_line : lines_text [] ≡ []
unfolding unlines
no_line = refl

pub one_line : (l : Line) → lines_text (l ∷ []) ≡ line_bytes l
unfolding unlines
one_line l = append-nil (line_bytes l)

pub more_lines : (l : Line) (ls : List Line) → lines_text (l ∷ ls) ≡ line_bytes l ++ lines_text ls
unfolding unlines
more_lines l ls = refl

pub lines_append : (a b : List Line) → lines_text (a ++ b) ≡ lines_text a ++ lines_text b
unfolding unlines
lines_append [] b = refl
lines_append (l ∷ a) b = rw (lines_append a b, append_assoc)

-- a line without a value, and a number unless it is 0
pub line_where_lem : (l : Line) (b : Bool) → lines_text (line_where l b) ≡ cond b (line_bytes l) []
line_where_lem l true = one_line l
line_where_lem l false = no_line

pub line_unless_zero_lem : (line : ℕ → Line) (n : ℕ) → lines_text (line_unless_zero line n) ≡ cond (eqb n 0) [] (line_bytes (line n))
line_unless_zero_lem line zero = no_line
line_unless_zero_lem line (suc n) = one_line (line (suc n)) ∙ rw (eqb-suc-zero n)
