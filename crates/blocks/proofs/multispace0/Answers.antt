-- `blocks::multispace0`: a byte above the space ends the run at once. Assumes nothing.
use Rattle.std.proofs.Common.{sym}
use Rattle.text.specs.Nom.{is_multispace}
use Rattle.text.proofs.Laws.{above_blank}
use Rattle.blocks.proofs.Blocks.{run_none}
use Rattle.blocks.proofs.multispace0.Goals as goal

pub returns-then-byte_at-gt32 : goal.returns-then-byte_at-gt32
returns-then-byte_at-gt32 c = sym (run_none is_multispace _ _ _ c.byte_at.ensures (above_blank _ c.if-byte_at-gt32.true))
