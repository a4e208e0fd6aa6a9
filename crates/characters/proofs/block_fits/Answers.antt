-- As long as the answer is yes, the bytes that were looked at fit. Assumes nothing.
use Prim.Native.Nat.{◌+◌}
use mathlib.Core.Path.{◌≡◌, sym, ◌∙◌, ap}
use mathlib.Core.Bool.{Bool, ◌&&◌}
use native.Mathlib.Omega.{arith}
use Rattle.characters.proofs.Whole.{fits_on}
use Rattle.characters.proofs.block_fits.Goals as goal

pub loop-k-init : goal.loop-k-init
loop-k-init c e j h l = absurd (omega arith)

pub loop-k-preserved : goal.loop-k-preserved
loop-k-preserved c e =
    let a = c.args in
    let z : a.at + (c.loop-k.k + 1) ≡ a.at + c.loop-k.k + 1 = omega arith in
    rw z (fits_on a.text.now a.at (a.at + c.loop-k.k) c.loop-k.all c.loop-k.invariant (sym (ap (λ (r : Bool). c.loop-k.all && r) c.fits-all.ensures) ∙ e))

pub returns : goal.returns
returns c e j h l = c.loop-k.invariant e j h (omega arith)
