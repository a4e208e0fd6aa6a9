-- `lay`: records, URIs and trailer, one behind the other. Assumes nothing.
use Rattle.put.proofs.Putting.{puts_then}
use Rattle.cue_writer.specs.Inside.Pass.{pass_file}
use Rattle.cue_writer.proofs.rows.lay.Goals as goal

pub returns : goal.returns
unfolding pass_file
returns c = puts_then c.clips-uris_at.ensures (puts_then c.uris-trailer_at.ensures c.trailer.ensures)
