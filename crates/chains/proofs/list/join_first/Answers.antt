-- `list::join_first`: what is kept, saved, and the list that joins its first chain. Assumes nothing.
use native.Mathlib.Omega.{arith}
use mathlib.Core.Path.{◌≡◌, ◌∙◌, ap}
use lib.Seq.{length-sets}
use Rattle.chains.specs.Inside.Kept.{memory_words, kept_at}
use Rattle.chains.specs.Inside.Answers.{memory_seen}
use Rattle.chains.proofs.Words.{first_part, part_length, saved_kept}
use Rattle.chains.proofs.Renewed.{saved_true}
use lib.ListN.{length}
use Rattle.chains.proofs.list.join_first.Goals as goal

pub returns : goal.returns
returns c =
    λ t j at q.
    let a = c.args in
    let room = length a.held.now in
    let s = c.save.ensures in
    let after = c.save.new.memory in
    let long : length after ≡ length a.memory.now = ap length s ∙ length-sets a.memory.now 0 (memory_words (memory_seen a.m)) in
    let part = first_part room after in
    let kept : kept_at room 0 after ≡ kept_at room 0 a.memory.now = ap (kept_at room 0) s ∙ saved_kept a.memory.now (memory_seen a.m) (omega (arith, c.requires)) room 0 in
    (c.joined.ensures (rw (part, kept) t.first) (rw part (part_length room after 0 (omega (arith, c.requires, long)))) j at q, rw s (saved_true _ _ _ _ c.requires _ t))
