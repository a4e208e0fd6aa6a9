-- `blocks::until`: nothing is there; or the run from here is the run from the start, up to where `find` goes on. Assumes nothing.
use Rattle.std.proofs.Common.{◌≡◌, ◌+◌, sym, ◌∙◌, ap, not, arith}
use Rattle.text.specs.Nom.{is_none_of, run_end}
use Rattle.text.proofs.Laws.{run_out, run_stop, run_step}
use Rattle.blocks.proofs.until.Goals as goal

pub returns-then-text-at : goal.returns-then-text-at
returns-then-text-at g c = sym (run_out _ _ _ c.if-text-at.true)

pub returns-then-is_one_of : goal.returns-then-is_one_of
returns-then-is_one_of g c = sym (c.loop-i.invariant ∙ run_stop (is_none_of c.args.set.now) _ _ (omega arith) (ap not (sym c.is_one_of.ensures ∙ c.if-is_one_of.true)))

pub loop-i-preserved : goal.loop-i-preserved
loop-i-preserved g c = c.loop-i.invariant ∙ run_step (is_none_of c.args.set.now) _ _ (omega arith) (ap not (sym c.is_one_of.ensures ∙ c.if-is_one_of.false))

pub returns : goal.returns
returns g c =
    let a = c.args in
    let z : c.loop-i.i ≡ a.at + c.min.result = omega arith in
    c.find.ensures ∙ sym (c.loop-i.invariant ∙ ap (run_end (is_none_of a.set.now) a.text.now) z)
