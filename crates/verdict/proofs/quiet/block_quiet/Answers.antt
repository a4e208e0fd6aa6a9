-- `quiet::block_quiet`: as long as the answer is yes, nothing is said at the bytes that were looked at. Assumes nothing.
use native.Mathlib.Omega.{arith}
use Prim.Native.Nat.{◌+◌}
use mathlib.Core.Path.{◌≡◌}
use Rattle.verdict.proofs.Passed.{quiet_on}
use Rattle.verdict.proofs.quiet.block_quiet.Goals as goal

pub loop-k-init : goal.loop-k-init
loop-k-init c e j h l = absurd (omega arith)

pub loop-k-preserved : goal.loop-k-preserved
loop-k-preserved c e =
    let a = c.args in
    let l = c.loop-k in
    let z : a.at + (l.k + 1) ≡ a.at + l.k + 1 = omega arith in
    rw z (quiet_on a.text.now a.at (a.at + l.k) l.quiet l.invariant e)

pub returns : goal.returns
returns c e j h l = c.loop-k.invariant e j h (omega arith)
