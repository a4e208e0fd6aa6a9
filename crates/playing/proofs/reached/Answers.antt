-- `reached`: the seconds are divided by the whole, then the ns come down three digits at a time; all of it is the last moment (`parts`). Assumes nothing.
use native.Mathlib.Omega.{arith}
use Rattle.playing.proofs.Moment.{Parts, parts}
use Rattle.playing.proofs.reached.Goals as goal
use Rattle.playing.proofs.reached.Goals.{Start}

pieces : (c : Start) → let a = c.args in Parts a.rate a.tick c.requires.1 a.whole
pieces c = let a = c.args in parts a.rate a.tick c.requires.1 a.whole c.requires.3

pub nonzero_div-turns : goal.nonzero_div-turns
nonzero_div-turns c = omega (arith, pieces (goal.at.nonzero_div-turns c).Start)

pub nonzero_rem-turns : goal.nonzero_rem-turns
nonzero_rem-turns c = omega (arith, pieces (goal.at.nonzero_rem-turns c).Start)

pub down-requires : goal.down-requires
down-requires c = omega (arith, pieces (goal.at.down-requires c).Start)

pub down-requires-2 : goal.down-requires-2
down-requires-2 c = omega (arith, c.down.ensures, pieces (goal.at.down-requires-2 c).Start)

pub down-requires-3 : goal.down-requires-3
down-requires-3 c = omega (arith, c.down-2.ensures, c.down.ensures, pieces (goal.at.down-requires-3 c).Start)

pub returns : goal.returns
returns c = omega (arith, c.down-3.ensures, c.down-2.ensures, c.down.ensures, pieces (goal.at.returns c).Start)
