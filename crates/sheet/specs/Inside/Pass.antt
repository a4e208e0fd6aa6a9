-- The clock's pass over a table of words, line by line: what each step of the cursor prints. Assumes nothing.
use Rattle.std.specs.Prelude.{ℕ, zero, suc, List, [], ◌++◌}
use Rattle.tables.specs.Layout.{uri_start, uri_end}
use Rattle.tables.specs.Table.{clip_word}
use Rattle.tables.specs.Refusal.{Answer, refused, given}
use Rattle.starts.specs.Starts.{Cursor, cursor, Row, row, Step, done, clip, starts, next}
use Rattle.output.specs.Waiting.{part}
use Rattle.sheet.specs.Sheet.{sheet_rate, header_line, clip_line, total_line}

-- where the cursor stands after a step: where it stood, if the step gives no clip
abbrev pub step_after : Cursor → Answer Step → Cursor
step_after before (refused r p) = before
step_after before (given done) = before
step_after before (given (clip r c)) = c

module _ (text words : List ℕ) where
  -- a row of the cursor, with the clip's URI
  unfoldable pub row_line : Row → List ℕ
  row_line (row k start length tick) = clip_line k start length tick (part text (clip_word words k uri_start) (clip_word words k uri_end))

  -- a step prints its clip's line, and nothing where it gives none
  abbrev pub step_line : Answer Step → List ℕ
  step_line (refused r p) = []
  step_line (given done) = []
  step_line (given (clip r c)) = row_line r

  -- so many steps
  unfoldable pub pass_lines : Cursor → ℕ → List ℕ
  pass_lines c zero = []
  pass_lines c (suc n) = step_line (next words c) ++ pass_lines (step_after c (next words c)) n

  -- a whole pass
  unfoldable pub pass_sheet : Cursor → List ℕ
  pass_sheet (cursor n rate turn total k before) = header_line ++ (pass_lines (cursor n rate turn total k before) n ++ total_line total)

  abbrev pub opened_sheet : Answer Cursor → Answer (List ℕ)
  opened_sheet (refused r p) = refused r p
  opened_sheet (given c) = given (pass_sheet c)

  unfoldable pub words_sheet : ℕ → Answer (List ℕ)
  words_sheet n = opened_sheet (starts words n sheet_rate 0)
