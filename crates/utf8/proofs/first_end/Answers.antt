-- The loop's invariant: the characters from here on end where those from the start do. Assumes nothing.
use mathlib.Core.Path.{◌∙◌}
use native.Mathlib.Omega.{arith}
use Rattle.utf8.proofs.Chars.{char_room, end_step}
use Rattle.utf8.proofs.first_end.Goals as goal

pub overflow_add-end : goal.overflow_add-end
overflow_add-end c = omega (arith, char_room _ _ _ c.in-Some.ensures)

pub loop-end-smaller : goal.loop-end-smaller
loop-end-smaller c = omega (arith, char_room _ _ _ c.in-Some.ensures)

pub loop-end-preserved : goal.loop-end-preserved
loop-end-preserved c = c.loop-end.invariant ∙ end_step _ _ _ c.in-Some.ensures
