-- `record::word`: a record that the table holds whole has the word (`next_held`); of any other `edge_word` gives it. Assumes nothing.
use Prim.Native.Nat.{◌+◌, ◌*◌, ◌≤◌}
use native.Mathlib.Omega.{arith}
use lib.ListN.{length}
use Rattle.tables.proofs.Records.{next_held}
use Rattle.tables.proofs.record.word.Given as given
use Rattle.tables.proofs.record.word.Goals as goal
use Rattle.tables.proofs.record.word.Goals.{Then-index-words}

held : (g : given.Over) (c : Then-index-words g) → let a = c.args in (a.index + 1) * g.row.WIDTH ≤ length a.words.now
held g c = let a = c.args in next_held g.row.WIDTH a.index a.words.now c.requires c.if-index-words.true

pub overflow_mul-result : goal.overflow_mul-result
overflow_mul-result g c = omega (arith, held g (goal.at.overflow_mul-result g c).Then-index-words)

pub overflow_add-result : goal.overflow_add-result
overflow_add-result g c = omega (arith, held g (goal.at.overflow_add-result g c).Then-index-words)

pub offset_bounds-words-index : goal.offset_bounds-words-index
offset_bounds-words-index g c = omega (arith, held g (goal.at.offset_bounds-words-index g c).Then-index-words)

pub bounds-words-index : goal.bounds-words-index
bounds-words-index g c = omega (arith, held g (goal.at.bounds-words-index g c).Then-index-words)
