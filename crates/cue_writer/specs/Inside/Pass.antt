-- The clock's pass over a table of words, record by record: what each step of the cursor puts, where a tick is a second. Assumes nothing.
use Rattle.std.specs.Prelude.{ℕ, zero, suc, ◌%◌, List, [], ◌∷◌, ◌++◌}
use Rattle.tables.specs.Layout.{second}
use Rattle.tables.specs.Refusal.{Answer, refused, given}
use Rattle.starts.specs.Starts.{Cursor, cursor, Row, row, Step, done, clip, next}
use Rattle.cue_file.specs.Format.{row_of, clip_fields, trailer_bytes, version1, uris}
use Rattle.cue_file.specs.Write.{cues_of}
use Rattle.cue_writer.specs.Inside.Measure.{uri_length}

-- where the cursor stands after a step: where it stood, if the step gives no clip
abbrev pub step_after : Cursor → Answer Step → Cursor
step_after before (refused r p) = before
step_after before (given done) = before
step_after before (given (clip r c)) = c

module _ (words : List ℕ) where
  -- a row of the cursor as a record
  unfoldable pub row_bytes : Row → List ℕ
  row_bytes (row k start length tick) = row_of (clip_fields version1.clip_widths) (tick ∷ start % second ∷ uri_length words k ∷ [])

  -- a step puts its clip's record, and nothing where it gives none
  abbrev pub step_bytes : Answer Step → List ℕ
  step_bytes (refused r p) = []
  step_bytes (given done) = []
  step_bytes (given (clip r c)) = row_bytes r

  -- so many steps
  unfoldable pub pass_bytes : Cursor → ℕ → List ℕ
  pass_bytes c zero = []
  pass_bytes c (suc n) = step_bytes (next words c) ++ pass_bytes (step_after c (next words c)) n

-- a whole pass, the URIs behind it, the trailer
unfoldable pub pass_file : List ℕ → List ℕ → Cursor → List ℕ
pass_file text words (cursor n rate turn total k before) =
    pass_bytes words (cursor n rate turn total k before) n ++ (uris (cues_of text words n) ++ trailer_bytes version1 n)
