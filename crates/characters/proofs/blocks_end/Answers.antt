-- The loop's invariant: from the first block on every byte fits. ASCII fits, and so does a block that was judged. Assumes nothing.
use mathlib.Core.Path.{refl, sym, ◌∙◌, ap}
use native.Mathlib.Omega.{arith}
use Rattle.text.specs.Utf8.{utf8_end}
use Rattle.characters.proofs.Whole.{passed_none, passed_ascii, passed_block, passed_end}
use Rattle.characters.proofs.blocks_end.Goals as goal

pub returns-then-text : goal.returns-then-text
returns-then-text c = refl

pub returns-then-at-lt-BEFORE : goal.returns-then-at-lt-BEFORE
returns-then-at-lt-BEFORE c = refl

pub returns-then-last-i : goal.returns-then-last-i
returns-then-last-i c = refl

pub returns-then-last_start-at : goal.returns-then-last_start-at
returns-then-last_start-at c = refl

pub loop-i-init : goal.loop-i-init
loop-i-init c = passed_none _ _ (omega arith) (omega arith) (sym c.last_start.ensures ∙ c.if-last_start-at.false)

pub loop-i-preserved-then-i-ascii : goal.loop-i-preserved-then-i-ascii
loop-i-preserved-then-i-ascii c = passed_ascii _ _ _ c.loop-i.invariant _ c.ascii_blocks-ascii.ensures.1 c.if-i-ascii.true

pub loop-i-preserved : goal.loop-i-preserved
loop-i-preserved c = passed_block _ _ _ c.loop-i.invariant 64 (omega arith) (c.block_fits.ensures c.if-block_fits.true)

pub returns-else-block_fits : goal.returns-else-block_fits
returns-else-block_fits c = passed_end _ _ _ c.loop-i.invariant ∙ ap (utf8_end _) (sym c.last_start-else-block_fits.ensures)

pub last_start-requires-2 : goal.last_start-requires-2
last_start-requires-2 c = c.loop-i.invariant.room

pub returns : goal.returns
returns c = passed_end _ _ _ c.loop-i.invariant ∙ ap (utf8_end _) (sym c.last_start-2.ensures)
