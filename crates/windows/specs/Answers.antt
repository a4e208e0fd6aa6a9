-- What each answer of the code says, in the words of the rules. Assumes nothing.
use Rattle.std.specs.Prelude.{Result, Option as Perhaps, None, Some}
use Rattle.tables.specs.declared.Refusal as refusalᵈ
use Rattle.tables.specs.Refusal.{Answer}
use Rattle.tables.specs.Answers.{answer}
use Rattle.window.specs.Answers.{answer_of}
use Rattle.windows.specs.declared.Windows as windowsᵈ
use Rattle.windows.specs.declared.Row as rowᵈ
use Rattle.windows.specs.Windows.{Cursor, cursor, Row, row, Step, done, clip}

abbrev pub cursor_of : windowsᵈ.Windows → Cursor
cursor_of s = cursor s.clips s.clip (answer_of s.before)

abbrev pub row_of : rowᵈ.Row → Row
row_of r = row r.clip (answer_of r.window)

abbrev pub opened_of : Result windowsᵈ.Windows refusalᵈ.Refusal → Answer Cursor
opened_of = answer cursor_of

abbrev pub clip_of : Perhaps (rowᵈ.Row × windowsᵈ.Windows) → Step
clip_of None = done
clip_of (Some s) = clip (row_of s.0) (cursor_of s.1)

abbrev pub step_of : Result (Perhaps (rowᵈ.Row × windowsᵈ.Windows)) refusalᵈ.Refusal → Answer Step
step_of = answer clip_of
