-- `seconds_at` meets its contract: one digit, or a number. Assumes nothing.
use native.Mathlib.Omega.{arith}
use mathlib.Core.Path.{ap, sym}
use lib.ListN.{length}
use Rattle.digits.proofs.Number.{number_small}
use Rattle.put.proofs.Putting.{puts_as, byte_fits}
use Rattle.numerals.proofs.seconds_at.Goals as goal

pub bounds-out-at : goal.bounds-out-at
bounds-out-at c = omega (arith, ap length (number_small c.args.n c.if-n-lt10.true), c.requires)

pub returns-then-n-lt10 : goal.returns-then-n-lt10
returns-then-n-lt10 c = puts_as (sym (number_small c.args.n c.if-n-lt10.true)) (byte_fits (bounds-out-at c))
