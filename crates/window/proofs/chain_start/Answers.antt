-- `chain_start`: where the chain of the clip that is asked for may begin, so may that of the clip reached. Assumes nothing.
use native.Mathlib.Omega.{arith}
use mathlib.Core.Path.{◌≡◌, sym, ap, ◌∙◌}
use Rattle.window.specs.Inside.Chain.{chain_start}
use Rattle.window.proofs.Chain.{chain_stop, chain_back, chain_first}
use Rattle.window.proofs.chain_start.Goals as goal

pub returns-then-not-goes_on : goal.returns-then-not-goes_on
returns-then-not-goes_on c =
    let l = c.loop-k in
    sym (l.invariant ∙ chain_stop _ l.k (sym c.goes_on.ensures ∙ c.if-not-goes_on.true))

pub loop-k-preserved : goal.loop-k-preserved
loop-k-preserved c =
    let l = c.loop-k in
    l.invariant ∙ chain_back _ l.k c.loop-k-test.true (sym c.goes_on.ensures ∙ c.if-not-goes_on.false)

pub returns : goal.returns
returns c =
    let l = c.loop-k in
    let z : l.k ≡ 0 = omega (arith, c.loop-k-test.false) in
    sym (l.invariant ∙ (ap (chain_start _) z ∙ chain_first _))
