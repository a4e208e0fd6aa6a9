-- `record::edge_word`: past the two tests the index is in the table (`word_within`); at each of them it is past its end. Assumes nothing.
use mathlib.Core.Path.{sym}
use Prim.Native.Nat.{◌+◌, ◌*◌, ◌<◌}
use native.Mathlib.Omega.{arith}
use lib.ListN.{length, get_or-eq_default}
use Rattle.tables.proofs.Records.{word_within, word_past}
use Rattle.tables.proofs.record.edge_word.Given as given
use Rattle.tables.proofs.record.edge_word.Goals as goal
use Rattle.tables.proofs.record.edge_word.Goals.{Else-words-place-2}

within : (g : given.Over) (c : Else-words-place-2 g) → let a = c.args in a.index * g.row.WIDTH + a.place < length a.words.now
within g c = let a = c.args in word_within g.row.WIDTH (length a.words.now) a.place a.index c.requires (omega arith) c.if-words-place-2.false

pub returns-then-words-place : goal.returns-then-words-place
returns-then-words-place g c = let a = c.args in sym (get_or-eq_default a.words.now 0 {n = a.index * g.row.WIDTH + a.place} (omega arith))

pub returns-then-words-place-2 : goal.returns-then-words-place-2
returns-then-words-place-2 g c = let a = c.args in sym (get_or-eq_default a.words.now 0 (word_past g.row.WIDTH (length a.words.now) a.place a.index c.requires (omega arith) c.if-words-place-2.true))

pub overflow_mul-result : goal.overflow_mul-result
overflow_mul-result g c = omega (arith, within g (goal.at.overflow_mul-result g c).Else-words-place-2)

pub overflow_add-result : goal.overflow_add-result
overflow_add-result g c = omega (arith, within g (goal.at.overflow_add-result g c).Else-words-place-2)

pub offset_bounds-words-index : goal.offset_bounds-words-index
offset_bounds-words-index g c = omega (arith, within g (goal.at.offset_bounds-words-index g c).Else-words-place-2)

pub bounds-words-index : goal.bounds-words-index
bounds-words-index g c = omega (arith, within g (goal.at.bounds-words-index g c).Else-words-place-2)
