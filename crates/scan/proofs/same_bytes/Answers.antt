-- `scan::same_bytes`: the bytes so far, and what is left of the tag against what is left of the text, are the whole. Assumes nothing.
use mathlib.Core.Path.{sym, ◌∙◌}
use native.Mathlib.Omega.{arith}
use native.Mathlib.Nat.{add-zero}
use Rattle.text.specs.Nom.{tagged}
use Rattle.text.proofs.Laws.{begins_step, begins_end}
use Rattle.scan.proofs.same_bytes.Goals as goal

pub loop-k-init : goal.loop-k-init
loop-k-init c = rw (add-zero c.args.at)

pub loop-k-preserved : goal.loop-k-preserved
loop-k-preserved c = c.loop-k.invariant ∙ begins_step _ _ c.loop-k.same _ _ c.loop-k-test.true (omega arith)

pub returns : goal.returns
unfolding tagged
returns c =
    let a = c.args in
    sym (c.loop-k.invariant ∙ begins_end a.tag.now a.text.now _ a.at _ c.loop-k-test.false)
