-- `length_aside` meets its contract: the text stands at the front of what was made aside. Assumes nothing.
use native.Mathlib.Omega.{arith}
use mathlib.Core.Path.{◌≡◌, sym}
use Prim.Native.Nat.{◌≤◌}
use lib.ListN.{length, take}
use lib.Seq.{length-take-le}
use Rattle.digits.specs.Digits.{length_text}
use Rattle.digits.proofs.Length.{length_most}
use Rattle.put.proofs.Putting.{puts_as, fit_front}
use Rattle.numerals.proofs.length_aside.Goals as goal
use Rattle.numerals.proofs.length_aside.Goals.{After-length_at-end}

pub length_at-end-requires : goal.length_at-end-requires
length_at-end-requires c = omega (arith, length_most c.args.ns c.ranges.ns.fits)

-- what was made aside
front : (c : After-length_at-end) → (c.length_at-end.result ≤ length c.length_at-end.new.out) × (take c.length_at-end.result c.length_at-end.new.out ≡ length_text c.args.ns)
front c = fit_front c.length_at-end.ensures (omega (arith, length_most c.args.ns c.ranges.ns.fits))

pub slice_bounds-aside-end : goal.slice_bounds-aside-end
slice_bounds-aside-end c = (front (goal.at.slice_bounds-aside-end c).After-length_at-end).0

pub slice_bounds-copy-end : goal.slice_bounds-copy-end
slice_bounds-copy-end c = sym (length-take-le c.length_at-end.result c.length_at-end.new.out (front (goal.at.slice_bounds-copy-end c).After-length_at-end).0)

pub returns : goal.returns
returns c = puts_as (front (goal.at.returns c).After-length_at-end).1 c.copy.ensures
