-- `three_at` meets its contract: one digit, two or three. Assumes nothing.
use native.Mathlib.Omega.{arith}
use Prim.Native.Nat.{◌+◌, ◌/◌, ◌%◌}
use mathlib.Core.Path.{◌≡◌, ap, sym}
use mathlib.Core.List.{[], ◌∷◌}
use lib.ListN.{length, length-set}
use Rattle.put.proofs.Putting.{puts_as, byte_fits}
use Rattle.numerals.specs.Inside.Front.{front_by}
use Rattle.numerals.proofs.Front.{front_one, front_two, one_only, two_only, all_three, two_fit, three_fit}
use Rattle.numerals.proofs.three_at.Goals as goal
use Rattle.numerals.proofs.three_at.Goals.{Start, Else-one-behind-eq0}

pub bounds-out-at : goal.bounds-out-at
bounds-out-at c = let a = c.args in omega (arith, c.requires, ap length (front_one a.three a.behind c.requires.behind_nonzero))

pub returns-then-two-behind-eq0 : goal.returns-then-two-behind-eq0
returns-then-two-behind-eq0 c = puts_as (sym (one_only c.args.three c.args.behind c.requires.behind_nonzero c.if-two-behind-eq0.true)) (byte_fits (bounds-out-at (goal.at.returns-then-two-behind-eq0 c).Start))

pub bounds-out-at-2 : goal.bounds-out-at-2
bounds-out-at-2 c =
    let e = front_two c.args.three c.args.behind c.requires.behind_nonzero c.if-two-behind-eq0.false in
    simp length-set (omega (arith, c.requires, ap length e))

pub returns-then-one-behind-eq0 : goal.returns-then-one-behind-eq0
returns-then-one-behind-eq0 c =
    let e = two_only c.args.three c.args.behind c.requires.behind_nonzero c.if-two-behind-eq0.false c.if-one-behind-eq0.true in
    puts_as (sym e) (two_fit (omega (arith, c.requires, ap length e)))

-- all three are there
all : (c : Else-one-behind-eq0) → front_by 3 c.args.three c.args.behind
    ≡ (48 + c.args.three / 100) ∷ (48 + c.args.three % 100 / 10) ∷ (48 + c.args.three % 100 % 10) ∷ []
all c = all_three c.args.three c.args.behind c.requires.behind_nonzero c.if-one-behind-eq0.false

pub bounds-out-at-3 : goal.bounds-out-at-3
bounds-out-at-3 c = simp length-set (omega (arith, c.requires, ap length (all (goal.at.bounds-out-at-3 c).Else-one-behind-eq0)))

pub returns : goal.returns
returns c = puts_as (sym (all (goal.at.returns c).Else-one-behind-eq0)) (three_fit (omega (arith, c.requires, ap length (all (goal.at.returns c).Else-one-behind-eq0))))
