-- `blocks::line_blocks_end`: what is passed is neither CR nor LF. Assumes nothing.
use Rattle.std.proofs.Common.{rules, ◌&&◌, leb}
use Rattle.blocks.proofs.Blocks.{all_less, above_cr}
use Rattle.blocks.proofs.line_blocks_end.Goals as goal

pub returns : goal.returns
returns c = c.passed_end.ensures.run _ (λ block e. all_less (λ x. leb 14 x && leb x 255) _ above_cr block (search rules))
