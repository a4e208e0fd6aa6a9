-- `record::clip_words`: the words from the record's first on. Assumes nothing.
use native.Mathlib.Omega.{arith}
use mathlib.Core.Path.{◌∙◌}
use Prim.Native.Nat.{◌+◌, ◌*◌, ◌≤◌}
use lib.ListN.{length}
use Rattle.tables.proofs.Records.{next_held}
use Rattle.tables.proofs.Listed.{listed_words}
use Rattle.tables.proofs.record.clip_words.Goals as goal

pub returns : goal.returns
returns c =
    let a = c.args in
    let held : (a.clip + 1) * 17 ≤ length a.words.now = next_held 17 a.clip a.words.now (omega arith) c.if-words-clip.false in
    c.copy_from_slice.ensures.after ∙ listed_words a.words.now (a.clip * 17) 17 _ (omega arith) (omega arith)
