-- What each answer of the code says, in the words of the rules. Assumes nothing.
use Rattle.std.specs.Prelude.{Result, Option, Some, None}
use Rattle.tables.specs.Refusal.{Answer}
use Rattle.tables.specs.Answers.{answer}
use Rattle.tables.specs.declared.Refusal as refusalᵈ
use Rattle.starts.specs.declared.Starts as startsᵈ
use Rattle.starts.specs.declared.Row as rowᵈ
use Rattle.starts.specs.Starts.{Cursor, cursor, Row, row, Step, done, clip}

abbrev pub cursor_of : startsᵈ.Starts → Cursor
cursor_of s = cursor s.clips s.rate s.turn s.total s.clip s.before

abbrev pub row_of : rowᵈ.Row → Row
row_of r = row r.clip r.start r.length r.tick

abbrev pub opened_of : Result startsᵈ.Starts refusalᵈ.Refusal → Answer Cursor
opened_of = answer cursor_of

-- what a step gives: nothing more, or a clip's row and the cursor after it
abbrev pub given_of : Option (rowᵈ.Row × startsᵈ.Starts) → Step
given_of None = done
given_of (Some p) = clip (row_of p.0) (cursor_of p.1)

abbrev pub step_of : Result (Option (rowᵈ.Row × startsᵈ.Starts)) refusalᵈ.Refusal → Answer Step
step_of = answer given_of
