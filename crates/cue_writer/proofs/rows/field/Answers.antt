-- `field`: the last bytes of the number's eight. Rests on `last_bytes`. Assumes nothing.
use Rattle.put.proofs.Putting.{puts_as}
use Rattle.cue_writer.proofs.Bytes.{last_bytes}
use Rattle.cue_writer.proofs.rows.field.Goals as goal

pub returns : goal.returns
returns g c = puts_as (last_bytes g.row.WIDTH c.args.value c.requires) (rw c.to_be_bytes.ensures at c.copy.ensures)
