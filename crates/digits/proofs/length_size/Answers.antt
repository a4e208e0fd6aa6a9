-- `length_size`: the seconds, and what is behind them. Assumes nothing.
use native.Mathlib.Omega.{arith}
use Rattle.digits.proofs.Length.{length_parts, length_most}
use Rattle.digits.proofs.length_size.Goals as goal

pub returns : goal.returns
returns c =
    let ns = c.args.ns in
    record {
      size = omega (arith, c.number_size-whole.ensures.size, c.fraction_size-behind.ensures.size, length_parts ns, length_most ns c.ranges.ns.fits);
      most = omega (arith, c.number_size-whole.ensures.size, c.fraction_size-behind.ensures.size, length_parts ns, length_most ns c.ranges.ns.fits);
    }
