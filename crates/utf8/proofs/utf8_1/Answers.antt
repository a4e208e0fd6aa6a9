-- One row of one octet. Assumes nothing.
use mathlib.Core.Path.{refl}
use Rattle.utf8.proofs.Rows.{row_alone}
use Rattle.utf8.proofs.utf8_1.Goals as goal

pub returns : goal.returns
returns c = row_alone _ _ _ _ _ _ _ c.octet.ensures refl refl
