-- `scan::byte_at`: past the end `get_or` gives 0. Assumes nothing.
use Prim.Native.Nat.{◌+◌}
use native.Mathlib.Omega.{arith}
use mathlib.Core.Path.{sym}
use lib.ListN.{get_or-eq_default}
use Rattle.scan.proofs.byte_at.Goals as goal

pub returns-then-text-place : goal.returns-then-text-place
returns-then-text-place c = let a = c.args in sym (get_or-eq_default a.text.now 0 {n = a.at + a.place} (omega (arith, c.if-text-place.true)))

pub returns-then-text-place-2 : goal.returns-then-text-place-2
returns-then-text-place-2 c = let a = c.args in sym (get_or-eq_default a.text.now 0 {n = a.at + a.place} (omega (arith, c.if-text-place-2.true, c.if-text-place.false)))

pub overflow_add-result : goal.overflow_add-result
overflow_add-result c = omega (arith, c.if-text-place-2.false)

pub bounds-text-at : goal.bounds-text-at
bounds-text-at c = omega (arith, c.if-text-place-2.false)
