-- The reader's pass over a cue file, line by line: what each step of the cursor prints. Assumes nothing.
use Rattle.std.specs.Prelude.{ℕ, zero, suc, List, [], ◌++◌}
use Rattle.text.specs.Nom.{Span, span}
use Rattle.tables.specs.Refusal.{Answer, refused, given}
use Rattle.output.specs.Waiting.{part}
use Rattle.cue_file.specs.Format.{version1}
use Rattle.cue_file.specs.Read.{Cursor, cursor, Step, done, clip, next}
use Rattle.cues.specs.Shown.{header_line, cue_line}

-- where the cursor stands after a step: where it stood, if the step gives no clip
abbrev pub step_after : Cursor → Answer Step → Cursor
step_after before (refused r p) = before
step_after before (given done) = before
step_after before (given (clip k start uri c)) = c

module _ (file : List ℕ) where
  -- a clip's line
  abbrev pub span_line : ℕ → ℕ → Span → List ℕ
  span_line k start (span a b) = cue_line k start (part file a b)

  -- a step prints its clip's line, and nothing where it gives none
  abbrev pub step_line : Answer Step → List ℕ
  step_line (refused r p) = []
  step_line (given done) = []
  step_line (given (clip k start uri c)) = span_line k start uri

  -- so many steps
  unfoldable pub pass_lines : Cursor → ℕ → List ℕ
  pass_lines c zero = []
  pass_lines c (suc n) = step_line (next version1 file c) ++ pass_lines (step_after c (next version1 file c)) n

  -- a whole pass
  abbrev pub pass_text : Cursor → List ℕ
  pass_text (cursor n k place) = header_line ++ pass_lines (cursor n k place) n

  abbrev pub opened_text : Answer Cursor → Answer (List ℕ)
  opened_text (refused r p) = refused r p
  opened_text (given c) = given (pass_text c)
