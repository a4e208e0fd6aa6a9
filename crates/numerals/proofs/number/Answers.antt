-- `number` meets its contract: no room, less than the longest takes, or enough. Assumes nothing.
use borrow.Author.Rules.{rules}
use native.Mathlib.Omega.{arith}
use Rattle.digits.proofs.Number.{number_size}
use Rattle.put.proofs.Putting.{puts_lost}
use Rattle.numerals.proofs.number.Goals as goal

pub returns-then-out-at : goal.returns-then-out-at
returns-then-out-at c = puts_lost _ (search rules)

pub digits_at-requires : goal.digits_at-requires
digits_at-requires c = omega (arith, number_size c.args.n c.ranges.n.fits)

pub returns : goal.returns
returns c = c.digits_at.ensures
