-- `length` meets its contract: no room, less than the longest takes, or enough. Assumes nothing.
use borrow.Author.Rules.{rules}
use native.Mathlib.Omega.{arith}
use Rattle.digits.proofs.Length.{length_most}
use Rattle.put.proofs.Putting.{puts_lost}
use Rattle.numerals.proofs.length.Goals as goal

pub returns-then-out-at : goal.returns-then-out-at
returns-then-out-at c = puts_lost _ (search rules)

pub length_at-requires : goal.length_at-requires
length_at-requires c = omega (arith, length_most c.args.ns c.ranges.ns.fits)

pub returns : goal.returns
returns c = c.length_at.ensures
