-- One row: its first octet decides. Assumes nothing.
use mathlib.Core.Path.{refl, ◌∙◌}
use Rattle.utf8.proofs.Rows.{last, none_left, row_there, row_past}
use Rattle.utf8.proofs.utf8_2.Goals as goal

pub returns-then-octet : goal.returns-then-octet
returns-then-octet c = row_there _ _ _ _ _ _ _ c.octet.ensures c.if-octet.true refl 2 _ (last _ _ 1 _ _ c.utf8_tail.ensures)

pub returns : goal.returns
returns c = none_left _ _ _ ∙ row_past _ _ _ _ _ _ _ c.octet.ensures c.if-octet.false
