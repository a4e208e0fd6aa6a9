-- `is_head`: what each test ensures (`head_tested`). Assumes nothing.
use Rattle.ledgerfern.proofs.HeadNumbers.{head_tested}
use Rattle.ledgerfern.proofs.heads.is_head.Goals as goal

pub returns : goal.returns
returns c = head_tested c.args.h c.is_version.ensures c.is_type.ensures c.is_mark.ensures c.is_mark-2.ensures c.is_mark-3.ensures
