-- `lay` meets its contract. The loop's invariant: the bytes from byte k on, put from here on, are the whole put. Assumes nothing.
use borrow.Author.Rules.{rules}
use native.Mathlib.Nat.{add-zero}
use native.Mathlib.Omega.{arith}
use mathlib.Core.Path.{◌≡◌}
use lib.ListN.{length, drop_of_length-le}
use Rattle.put.proofs.Putting.{left_all, left_as, left_byte, left_none}
use Rattle.put.proofs.lay.Goals as goal

pub loop-k-init : goal.loop-k-init
loop-k-init c = (search rules, rw add-zero (left_all _ _ _))

pub overflow_add-out : goal.overflow_add-out
overflow_add-out c = omega (arith, c.loop-k.invariant.1.long, c.well_formed.0.0)

pub bounds-out-at : goal.bounds-out-at
bounds-out-at c = omega (arith, c.loop-k.invariant.1.long)

pub loop-k-preserved : goal.loop-k-preserved
loop-k-preserved c =
    let l = c.loop-k in
    (search rules, left_byte _ _ _ (search rules) (omega (arith, l.invariant.1.long)) l.invariant.1)

pub shape_of-out : goal.shape_of-out
shape_of-out c = c.loop-k.invariant.1.long

pub returns : goal.returns
returns c =
    let l = c.loop-k in
    let e : l.k ≡ length c.args.from.now = search rules in
    rw e at (left_none (left_as (drop_of_length-le _ {i = l.k} (search rules)) l.invariant.1))
