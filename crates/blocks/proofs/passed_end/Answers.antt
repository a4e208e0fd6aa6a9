-- `blocks::passed_end`: the run from here is the run from the start. Assumes nothing.
use Rattle.std.proofs.Common.{arith, ◌∙◌, ap, refl, ◌*◌, ◌+◌, ◌≡◌, ◌<◌, sym, subst, get_or, true}
use Rattle.std.specs.List.{list_all}
use Rattle.text.specs.Nom.{run_end}
use Rattle.blocks.proofs.Pieces.{piece_at, piece_within, piece_end}
use Rattle.blocks.proofs.Blocks.{run_past}
use Rattle.blocks.proofs.passed_end.Goals as goal

pub as_chunks-requires : goal.as_chunks-requires
as_chunks-requires g c = (omega arith, c.requires.size.0)

pub loop-k-preserved : goal.loop-k-preserved
loop-k-preserved g c p h =
    let n = g.row.SIZE in
    let a = c.args in
    let k = c.loop-k.k in
    let block = c.index-blocks-k.result in
    let part = c.index-blocks-k.is ∙ ap (λ bs. get_or bs k block) c.as_chunks.ensures.front ∙ piece_at n _ k a.at a.text.now block (omega arith) in
    let on : list_all p block ≡ true = h block (record { shown = _; shows = refl; says = record { met = c.if-not-passes.ensures } }) in
    c.loop-k.invariant p h ∙ run_past p a.text.now (a.at + n * k) n (piece_within n a.at k _ _ (subst (λ m. k < m) c.as_chunks.ensures.front_len c.loop-k-test.true) (omega arith)) (ap (list_all p) (sym part) ∙ on)
    ∙ ap (run_end p a.text.now) (piece_end n a.at k)
