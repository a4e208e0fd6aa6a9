-- The loop's invariant: the characters from here on end where those from the start do, as they do behind the blocks. Each turn passes one character and the ASCII
-- behind it, so that the bytes that are left become fewer. Assumes nothing.
use Prim.Native.Nat.{◌+◌}
use mathlib.Core.Path.{sym, ◌∙◌, ap}
use native.Mathlib.Omega.{arith}
use Rattle.text.specs.Nom.{is_ascii}
use Rattle.text.specs.Utf8.{utf8_end}
use Rattle.text.proofs.Laws.{run_from}
use Rattle.text.proofs.Utf8.{ascii_run, end_out}
use Rattle.utf8.proofs.Chars.{char_room, end_stop, end_step}
use Rattle.utf8.proofs.utf8_end.Goals as goal

pub returns-in_default : goal.returns-in_default
returns-in_default c = sym (c.loop-i.invariant ∙ end_stop _ _ c.in_default.ensures)

pub overflow_add-i : goal.overflow_add-i
overflow_add-i c = omega (arith, char_room _ _ _ c.in-Some.ensures)

pub loop-i-smaller : goal.loop-i-smaller
loop-i-smaller c = omega (arith, char_room _ _ _ c.in-Some.ensures, c.ascii_end-i.ensures, run_from is_ascii c.args.text.now (c.loop-i.i + c.in-Some.n))

pub loop-i-preserved : goal.loop-i-preserved
loop-i-preserved c = c.loop-i.invariant ∙ end_step _ _ _ c.in-Some.ensures ∙ ascii_run _ _ ∙ ap (utf8_end _) (sym c.ascii_end-i.ensures)

pub returns : goal.returns
returns c = sym (c.loop-i.invariant ∙ end_out _ _ c.loop-i-test.false)
