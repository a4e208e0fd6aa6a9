-- `record::fits`: the count against the quotient is the rule's product against the length (`fits_quotient`). Assumes nothing.
use Rattle.tables.proofs.Records.{fits_quotient}
use Rattle.tables.proofs.record.fits.Goals as goal

pub returns : goal.returns
returns g c = fits_quotient g.row.WIDTH c.args.count c.args.words.now c.requires
