-- `trailer`: its four fields, one behind the other. A count that holds its field keeps the place of the URIs small. Assumes nothing.
use Rattle.put.proofs.Putting.{puts_none, puts_then}
use Rattle.cue_writer.proofs.rows.trailer.Goals as goal

pub returns : goal.returns
returns c = puts_then c.field-uris_at.ensures (puts_then c.field-count_at.ensures (puts_then c.field-version_at.ensures (puts_then c.field.ensures puts_none)))
