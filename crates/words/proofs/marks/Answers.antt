-- `words::marks`: the answer is `marked` of eight bytes, whose bytes are the marks. Assumes nothing.
use native.Mathlib.Omega.{arith}
use borrow.Author.Rules.{rules}
use lib.Bits.{and_le_r}
use Rattle.words.proofs.Eight.{marked, marks_bytes}
use Rattle.words.proofs.marks.Goals as goal

pub overflow_add-low : goal.overflow_add-low
overflow_add-low c = omega (arith, and_le_r c.args.word 0x7F7F7F7F7F7F7F7F)

pub overflow_sub-result : goal.overflow_sub-result
overflow_sub-result c = search (rules, and_le_r)

pub returns : goal.returns
unfolding marked
returns c = marks_bytes c.args.word
