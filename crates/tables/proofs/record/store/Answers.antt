-- `record::store`: where the record fits, its words stand in the place of those that were there. Assumes nothing.
use borrow.Author.Rules.{rules}
use Prim.Native.Nat.{◌≤◌}
use mathlib.Core.Path.{sym, ◌∙◌}
use lib.ListN.{length, drop_of_length-le}
use Rattle.tables.proofs.Records.{fits_next, fits_not}
use Rattle.tables.proofs.Sets.{stored_fits, stored_not}
use Rattle.tables.proofs.record.store.Goals as goal

pub returns-then-words-index : goal.returns-then-words-index
returns-then-words-index g c = let a = c.args in sym (stored_not g.row.WIDTH a.index a.words.now a.values.now (fits_not g.row.WIDTH a.index a.words.now c.requires c.if-words-index.true))

pub returns : goal.returns
returns g c =
    let l = c.loop-place in
    let a = c.args in
    let h : length a.values.now ≤ l.place = search rules in
    rw (drop_of_length-le a.values.now {i = l.place} h) at l.invariant.1 ∙ sym (stored_fits g.row.WIDTH a.index a.words.now a.values.now (fits_next g.row.WIDTH a.index a.words.now c.requires c.if-words-index.false))
