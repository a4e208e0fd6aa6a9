-- No second result fits a public call's promise: its value's view has a way back. Of `all_starts` it is `laid_once` and `out_once` of `tables`.
-- Rests on `tables`' law of any answer. Assumes nothing.
use mathlib.Core.Path.{◌≡◌, refl}
use Rattle.std.specs.Prelude.{Result, Option, Some, None}
use Rattle.tables.specs.declared.Refusal as refusalᵈ
use Rattle.tables.specs.Refusal.{Answer}
use Rattle.tables.proofs.Refusals.{answer_only}
use Rattle.starts.specs.declared.Starts as startsᵈ
use Rattle.starts.specs.declared.Row as rowᵈ
use Rattle.starts.specs.Starts.{Cursor, cursor, Row, row, Step, done, clip}
use Rattle.starts.specs.Answers.{cursor_of, opened_of, given_of, step_of}

-- `Starts::new`
starts_from : Cursor → startsᵈ.Starts
starts_from (cursor n rate turn total k before) = record { clips = n; rate = rate; turn = turn; total = total; clip = k; before = before }

starts_back : (s : startsᵈ.Starts) → starts_from (cursor_of s) ≡ s
unfolding starts_from
starts_back s = refl

pub opened_only : (x : Answer Cursor) (a b : Result startsᵈ.Starts refusalᵈ.Refusal) → opened_of a ≡ x → opened_of b ≡ x → a ≡ b
opened_only = answer_only cursor_of starts_from starts_back

-- `Starts::next`
row_from : Row → rowᵈ.Row
row_from (row k start length tick) = record { clip = k; start = start; length = length; tick = tick }

given_from : Step → Option (rowᵈ.Row × startsᵈ.Starts)
given_from done = None
given_from (clip r c) = Some (row_from r, starts_from c)

given_back : (s : Option (rowᵈ.Row × startsᵈ.Starts)) → given_from (given_of s) ≡ s
unfolding given_from row_from starts_from
given_back None = refl
given_back (Some p) = refl

pub step_only : (x : Answer Step) (a b : Result (Option (rowᵈ.Row × startsᵈ.Starts)) refusalᵈ.Refusal) → step_of a ≡ x → step_of b ≡ x → a ≡ b
step_only = answer_only given_of given_from given_back
