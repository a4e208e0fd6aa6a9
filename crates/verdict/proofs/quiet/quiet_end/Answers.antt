-- `quiet::quiet_end`: the verdict from here is the verdict from the start (`past_all`). Assumes nothing.
use native.Mathlib.Omega.{arith}
use native.Mathlib.Nat.{le_refl}
use mathlib.Core.Path.{refl, ◌∙◌}
use Rattle.verdict.proofs.Passed.{past_all}
use Rattle.verdict.proofs.quiet.quiet_end.Goals as goal

pub returns-then-text-lt-QUIET_ROOM : goal.returns-then-text-lt-QUIET_ROOM
returns-then-text-lt-QUIET_ROOM c = (le_refl _, refl)

pub returns-then-byte_at-eq35 : goal.returns-then-byte_at-eq35
returns-then-byte_at-eq35 c = (le_refl _, refl)

pub loop-i-init : goal.loop-i-init
loop-i-init c = (le_refl _, refl)

pub loop-i-preserved : goal.loop-i-preserved
loop-i-preserved c = (omega (arith, c.loop-i.invariant.0), c.loop-i.invariant.1 ∙ past_all _ _ _ (omega arith) (omega arith) (c.block_quiet.ensures c.if-block_quiet.true))

pub returns-else-block_quiet : goal.returns-else-block_quiet
returns-else-block_quiet c = c.loop-i.invariant

pub returns : goal.returns
returns c = c.loop-i.invariant
