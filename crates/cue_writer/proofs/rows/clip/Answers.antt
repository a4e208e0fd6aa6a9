-- `clip`: its three fields, one behind the other. Assumes nothing.
use mathlib.Core.Path.{ap}
use Rattle.put.proofs.Putting.{puts_none, puts_as, puts_then}
use Rattle.cue_file.specs.Format.{bytes_of}
use Rattle.cue_writer.specs.Inside.Pass.{row_bytes}
use Rattle.cue_writer.proofs.rows.clip.Goals as goal

pub returns : goal.returns
unfolding row_bytes
returns c =
    let long = puts_as (ap (bytes_of 2) c.uri_length-length.ensures) c.field.ensures in
    puts_then c.field-nanoseconds_at.ensures (puts_then c.field-length_at.ensures (puts_then long puts_none))
