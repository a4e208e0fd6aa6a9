-- `length_at` meets its contract: whole seconds, and the fraction behind them. Assumes nothing.
use native.Mathlib.Omega.{arith}
use Rattle.digits.specs.Digits.{length_text}
use Rattle.digits.proofs.Length.{length_parts}
use Rattle.put.proofs.Putting.{puts_then, puts_long, fit_place}
use Rattle.numerals.proofs.length_at.Goals as goal

pub seconds_at-point-requires : goal.seconds_at-point-requires
seconds_at-point-requires c = omega (arith, c.requires, length_parts c.args.ns)

pub fraction_at-requires : goal.fraction_at-requires
fraction_at-requires c =
    let n = c.seconds_at-point.ensures in
    let l = length_parts c.args.ns in
    record {
      f_lt_second = omega arith;
      room = omega (arith, c.requires, l, puts_long n, fit_place n (omega (arith, c.requires, l)));
    }

pub returns : goal.returns
unfolding length_text
returns c = puts_then c.seconds_at-point.ensures c.fraction_at.ensures
