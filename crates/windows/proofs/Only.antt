-- No second result fits a public call's promise: each view has a way back. Rests on `answer_only` of `tables`. Of `all_windows` it is `laid_once` and
-- `out_once` of `tables`. Assumes nothing.
use Rattle.std.specs.Prelude.{◌≡◌, refl, Result, Option as Perhaps, None, Some}
use mathlib.Core.Path.{ap}
use Rattle.tables.specs.declared.Refusal as refusalᵈ
use Rattle.tables.specs.Refusal.{Answer}
use Rattle.tables.proofs.Refusals.{answer_from, answer_back, answer_only}
use Rattle.window.specs.declared.Range as rangeᵈ
use Rattle.window.specs.Answers.{range_of}
use Rattle.window.proofs.Only.{range_from, range_back}
use Rattle.windows.specs.declared.Windows as windowsᵈ
use Rattle.windows.specs.declared.Row as rowᵈ
use Rattle.windows.specs.Windows.{Cursor, cursor, Row, row, Step, done, clip}
use Rattle.windows.specs.Answers.{cursor_of, row_of, opened_of, clip_of, step_of}

-- `Windows::new`
cursor_from : Cursor → windowsᵈ.Windows
cursor_from (cursor n k before) = record { clips = n; clip = k; before = answer_from range_of range_from range_back before }

cursor_back : (s : windowsᵈ.Windows) → cursor_from (cursor_of s) ≡ s
unfolding cursor_from
cursor_back s = ap (λ (b : Result (Perhaps rangeᵈ.Range) refusalᵈ.Refusal). record { clips = s.clips; clip = s.clip; before = b }) (answer_back range_of range_from range_back s.before)

pub opened_only : (x : Answer Cursor) (a b : Result windowsᵈ.Windows refusalᵈ.Refusal) → opened_of a ≡ x → opened_of b ≡ x → a ≡ b
opened_only = answer_only cursor_of cursor_from cursor_back

-- `Windows::next`
row_from : Row → rowᵈ.Row
row_from (row k w) = record { clip = k; window = answer_from range_of range_from range_back w }

row_back : (r : rowᵈ.Row) → row_from (row_of r) ≡ r
unfolding row_from
row_back r = ap (λ (w : Result (Perhaps rangeᵈ.Range) refusalᵈ.Refusal). record { clip = r.clip; window = w }) (answer_back range_of range_from range_back r.window)

clip_from : Step → Perhaps (rowᵈ.Row × windowsᵈ.Windows)
clip_from done = None
clip_from (clip r c) = Some (row_from r, cursor_from c)

clip_back : (s : Perhaps (rowᵈ.Row × windowsᵈ.Windows)) → clip_from (clip_of s) ≡ s
unfolding clip_from
clip_back None = refl
clip_back (Some s) = λ i. Some (row_back s.0 i, cursor_back s.1 i)

pub step_only : (x : Answer Step) (a b : Result (Perhaps (rowᵈ.Row × windowsᵈ.Windows)) refusalᵈ.Refusal) → step_of a ≡ x → step_of b ≡ x → a ≡ b
step_only = answer_only clip_of clip_from clip_back
