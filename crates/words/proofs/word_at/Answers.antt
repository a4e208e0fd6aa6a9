-- `words::word_at`: the library's word of eight bytes. Assumes nothing.
use Rattle.std.proofs.Common.{arith}
use Rattle.words.proofs.Eight.{read_word}
use Rattle.words.proofs.word_at.Goals as goal

pub returns : goal.returns
returns c =
    let chunk = rw c.unwrap.ensures at c.try_from.ensures.1 in
    read_word c.args.text.now c.args.at _ c.unwrap.result (λ i. omega (arith, c.type_inv.text i)) (omega arith) chunk.same c.from_le_bytes.ensures
