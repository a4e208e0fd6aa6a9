-- `lengths::binary32::seconds_bits` meets its contract: the length moved up is `Scaled`, which bounds each shift and gives the bits.
-- Assumes nothing.
use mathlib.Core.Path.{refl, sym, ap, ◌∙◌}
use native.Mathlib.Omega.{arith}
use Rattle.lengths.specs.Binary32.{seconds_bits}
use Rattle.lengths.specs.Examples.{zero_bits}
use Rattle.lengths.proofs.Scaled.{Scaled, scaled, unit_fits, quotient_moved, digits_le, bits_are}
use Rattle.lengths.proofs.binary32.seconds_bits.Goals as goal
use Rattle.lengths.proofs.binary32.seconds_bits.Goals.{After-shifted-n}

pub returns-then-ns-eq0 : goal.returns-then-ns-eq0
returns-then-ns-eq0 c = sym (ap seconds_bits c.if-ns-eq0.true ∙ zero_bits)

pub shifted-n-requires : goal.shifted-n-requires
shifted-n-requires c = let S = scaled c.args.ns _ (omega arith) c.ranges.ns.fits refl in (S.up_lt, S.fits)

moved : (c : After-shifted-n) → Scaled c.args.ns c.shifted-n.result
moved c = scaled _ _ (omega arith) c.ranges.ns.fits c.shifted-n.ensures

pub overflow_sub-highest : goal.overflow_sub-highest
overflow_sub-highest c = omega (arith, moved (goal.at.overflow_sub-highest c).After-shifted-n)

pub overflow_sub-shift : goal.overflow_sub-shift
overflow_sub-shift c = omega (arith, moved (goal.at.overflow_sub-shift c).After-shifted-n)

pub shifted-unit-requires : goal.shifted-unit-requires
shifted-unit-requires c = (omega arith, omega (arith, unit_fits (moved (goal.at.shifted-unit-requires c).After-shifted-n)))

pub nearest-digits-requires : goal.nearest-digits-requires
nearest-digits-requires c =
    let u = unit_fits (moved (goal.at.nearest-digits-requires c).After-shifted-n) in
    (omega (arith, u, c.shifted-unit.ensures), omega (arith, u, c.shifted-unit.ensures), quotient_moved _ _ c.shifted-unit.ensures)

pub overflow_sub-exponent : goal.overflow_sub-exponent
overflow_sub-exponent c = omega (arith, moved (goal.at.overflow_sub-exponent c).After-shifted-n)

pub overflow_add-result : goal.overflow_add-result
overflow_add-result c = omega (arith, digits_le (moved (goal.at.overflow_add-result c).After-shifted-n) c.shifted-unit.ensures c.nearest-digits.ensures)

pub returns : goal.returns
returns c = bits_are (moved (goal.at.returns c).After-shifted-n) c.shifted-unit.ensures c.nearest-digits.ensures
