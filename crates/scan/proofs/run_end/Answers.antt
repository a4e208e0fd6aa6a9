-- `scan::run_end`: the run from here is the run from the start. Assumes nothing.
use Rattle.std.proofs.Common.{◌≡◌, sym, ◌∙◌, arith, ◌≤◌, length, max}
use native.Mathlib.Decide.{dec_le}
use Rattle.text.specs.Nom.{run_end}
use Rattle.text.proofs.Laws.{run_out, run_stop, run_step}
use Rattle.scan.proofs.run_end.Goals as goal

pub returns-then-not-passes : goal.returns-then-not-passes
returns-then-not-passes g c p h = sym (c.loop-i.invariant p h ∙ run_stop p _ _ c.loop-i-test.true (sym (h _ _ (omega arith) c.if-not-passes.ensures)))

pub loop-i-preserved : goal.loop-i-preserved
loop-i-preserved g c p h = c.loop-i.invariant p h ∙ run_step p _ _ c.loop-i-test.true (sym (h _ _ (omega arith) c.if-not-passes.ensures))

pub returns : goal.returns
returns g c p h = c.max.ensures ∙ go (dec_le (length c.args.text.now) c.args.at)
  where
    go : Dec (length c.args.text.now ≤ c.args.at) → max c.args.at (length c.args.text.now) ≡ run_end p c.args.text.now c.args.at
    go (yes l) = omega (arith, run_out p c.args.text.now c.args.at l)
    go (no l) = omega (arith, c.loop-i.invariant p h, run_out p c.args.text.now c.loop-i.i c.loop-i-test.false)
