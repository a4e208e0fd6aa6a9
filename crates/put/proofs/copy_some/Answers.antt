-- `copy_some` meets its contract: all of the bytes have room, some, or none. Assumes nothing.
use borrow.Author.Rules.{rules}
use native.Mathlib.Omega.{arith}
use mathlib.Core.Path.{refl, sym}
use Prim.Native.Nat.{◌-◌}
use lib.ListN.{length, length-take}
use lib.Seq.{length-take-le}
use Rattle.put.proofs.Putting.{puts_lost, puts_kept}
use Rattle.put.proofs.copy_some.Goals as goal

pub returns-then-out-at : goal.returns-then-out-at
returns-then-out-at c = puts_lost _ (search rules)

pub slice_bounds-lay-end : goal.slice_bounds-lay-end
slice_bounds-lay-end c = sym (length-take-le (length c.args.out.now - c.args.at) c.args.from.now (search rules))

pub lay-requires : goal.lay-requires
lay-requires c = let a = c.args in omega (arith, length-take (length a.out.now - a.at) a.from.now)

pub returns-then-room-from : goal.returns-then-room-from
returns-then-room-from c = let a = c.args in puts_kept a.out.now a.at (search rules) a.from.now _ refl c.lay.ensures

pub returns : goal.returns
returns c = c.lay-2.ensures
