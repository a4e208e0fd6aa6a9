-- A byte that is there is tested; past the text's end there is none. Assumes nothing.
use native.Mathlib.Omega.{arith}
use mathlib.Core.Path.{sym}
use Rattle.text.proofs.Utf8.{octet_out}
use Rattle.utf8.specs.Answers.{taken}
use Rattle.utf8.proofs.Rows.{octet_here}
use Rattle.utf8.proofs.octet.Goals as goal

pub returns-then-text-place : goal.returns-then-text-place
unfolding taken
returns-then-text-place c = sym (octet_out _ _ _ (omega arith))

pub returns-then-text-place-2 : goal.returns-then-text-place-2
unfolding taken
returns-then-text-place-2 c = sym (octet_out _ _ _ (omega arith))

pub returns : goal.returns
returns c = octet_here _ _ _ _ (omega arith)
