-- `words::marks_of`: the answer is `marked` of eight bytes without the bits of the byte, whose bytes are the marks. Assumes nothing.
use native.Mathlib.Omega.{arith}
use borrow.Author.Rules.{rules}
use lib.Bits.{bit_xor, and_le_r}
use Prim.Native.Nat.{◌*◌}
use Rattle.words.proofs.Eight.{marked, marks_of_bytes}
use Rattle.words.proofs.marks_of.Goals as goal

pub overflow_add-low : goal.overflow_add-low
overflow_add-low c = omega (arith, and_le_r (bit_xor c.args.word (0x0101010101010101 * c.args.b)) 0x7F7F7F7F7F7F7F7F)

pub overflow_sub-result : goal.overflow_sub-result
overflow_sub-result c = search (rules, and_le_r)

pub returns : goal.returns
unfolding marked
returns c = marks_of_bytes c.args.word c.args.b (omega arith)
