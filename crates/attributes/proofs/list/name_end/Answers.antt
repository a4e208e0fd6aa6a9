-- `list::name_end`: the two sides of the test. Assumes nothing.
use native.Mathlib.Omega.{arith}
use lib.ListN.{drop, length-take, length-drop}
use Rattle.attributes.proofs.list.name_end.Goals as goal

pub returns-then-names-start : goal.returns-then-names-start
returns-then-names-start c =
    let a = c.args in
    omega (arith, length-take a.size (drop a.start a.names.now), length-drop a.start a.names.now)

pub returns : goal.returns
returns c =
    let a = c.args in
    omega (arith, length-take a.size (drop a.start a.names.now), length-drop a.start a.names.now)
