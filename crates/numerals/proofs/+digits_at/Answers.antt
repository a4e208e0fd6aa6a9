-- `digits_at` meets its contract: a number of one digit, and one of more as its quotient's digits and its last one. Assumes nothing.
use mathlib.Core.Path.{◌≡◌, ap, sym, ◌∙◌}
use mathlib.Core.List.{[], ◌∷◌}
use Prim.Native.Nat.{ℕ, ◌+◌, ◌≤◌, ◌<◌, ◌/◌, ◌%◌, ◌^◌}
use native.Mathlib.Omega.{arith}
use lib.ListN.{length, length-append}
use Rattle.digits.specs.Digits.{number_text}
use Rattle.digits.proofs.Number.{number_small, number_more}
use Rattle.put.proofs.Putting.{puts_as, puts_then, puts_long, fit_place, byte_fits}
use Rattle.numerals.proofs.+digits_at.Goals as goal

-- a number of more digits: its quotient's, and its last one
longer : (n : ℕ) → 10 ≤ n → n < 2 ^ 64 → length (number_text n) ≡ length (number_text (n / 10)) + 1
longer n h k = ap length (number_more n h k) ∙ length-append (number_text (n / 10)) ((48 + n % 10) ∷ [])

pub bounds-out-at : goal.bounds-out-at
bounds-out-at t c = omega (arith, ap length (number_small c.args.n c.if-n-lt10.true), c.requires)

pub returns-then-n-lt10 : goal.returns-then-n-lt10
returns-then-n-lt10 t c = puts_as (sym (number_small c.args.n c.if-n-lt10.true)) (byte_fits (bounds-out-at t c))

pub digits_at-last-requires : goal.digits_at-last-requires
digits_at-last-requires t c = (omega arith, omega (arith, c.requires, longer c.args.n c.if-n-lt10.false c.ranges.n.fits))

-- where the last digit goes
pub bounds-out-last : goal.bounds-out-last
bounds-out-last t c =
    let q = c.digits_at-last.ensures in
    let e = longer c.args.n c.if-n-lt10.false c.ranges.n.fits in
    omega (arith, e, c.requires, puts_long q, fit_place q (omega (arith, e, c.requires)))

pub overflow_add-result-2 : goal.overflow_add-result-2
overflow_add-result-2 t c = omega (arith, bounds-out-last t c, puts_long c.digits_at-last.ensures, c.well_formed)

pub returns : goal.returns
returns t c = puts_as (sym (number_more c.args.n c.if-n-lt10.false c.ranges.n.fits)) (puts_then c.digits_at-last.ensures (byte_fits (bounds-out-last t c)))
