-- `kept::lay`: the words in the place of as many. Assumes nothing.
use native.Mathlib.Omega.{arith}
use mathlib.Core.Path.{refl, ◌∙◌}
use lib.ListN.{length}
use Rattle.std.proofs.lemmas.Slice.{put_mid-paste}
use Rattle.tables.proofs.Sets.{pasted}
use Rattle.chains.proofs.kept.lay.Goals as goal

pub returns : goal.returns
returns c =
    let a = c.args in
    put_mid-paste a.at _ a.memory.now _ a.words.now (length a.words.now) c.copy_from_slice.ensures.after (omega arith) (omega arith)
    ∙ pasted a.memory.now a.at a.words.now (length a.words.now) refl (omega arith)
