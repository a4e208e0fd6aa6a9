-- `number_aside` meets its contract: the text stands at the front of what was made aside. Assumes nothing.
use native.Mathlib.Omega.{arith}
use mathlib.Core.Path.{◌≡◌, sym}
use Prim.Native.Nat.{◌≤◌}
use lib.ListN.{length, take}
use lib.Seq.{length-take-le}
use Rattle.digits.specs.Digits.{number_text}
use Rattle.digits.proofs.Number.{number_size}
use Rattle.put.proofs.Putting.{puts_as, fit_front}
use Rattle.numerals.proofs.number_aside.Goals as goal
use Rattle.numerals.proofs.number_aside.Goals.{After-digits_at-end}

pub digits_at-end-requires : goal.digits_at-end-requires
digits_at-end-requires c = omega (arith, number_size c.args.n c.ranges.n.fits)

-- what was made aside
front : (c : After-digits_at-end) → (c.digits_at-end.result ≤ length c.digits_at-end.new.out) × (take c.digits_at-end.result c.digits_at-end.new.out ≡ number_text c.args.n)
front c = fit_front c.digits_at-end.ensures (omega (arith, number_size c.args.n c.ranges.n.fits))

pub slice_bounds-aside-end : goal.slice_bounds-aside-end
slice_bounds-aside-end c = (front (goal.at.slice_bounds-aside-end c).After-digits_at-end).0

pub slice_bounds-copy-end : goal.slice_bounds-copy-end
slice_bounds-copy-end c = sym (length-take-le c.digits_at-end.result c.digits_at-end.new.out (front (goal.at.slice_bounds-copy-end c).After-digits_at-end).0)

pub returns : goal.returns
returns c = puts_as (front (goal.at.returns c).After-digits_at-end).1 c.copy.ensures
