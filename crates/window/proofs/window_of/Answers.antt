-- `window_of`: with the window in hand the next clip's is the rule's, from where the chain may begin (`chain_ready`) to the clip asked for
-- (`window_after_lem`). Assumes nothing.
use native.Mathlib.Omega.{arith}
use native.Mathlib.Numerals.{add-one}
use mathlib.Core.Path.{◌∙◌}
use Rattle.window.proofs.Chain.{chain_low, chain_ready, window_after_lem}
use Rattle.window.proofs.window_of.Goals as goal

pub loop-k-init : goal.loop-k-init
loop-k-init c =
    let a = c.args in
    (omega (arith, c.chain_start-k.ensures, chain_low a.words.now a.clip), rw c.chain_start-k.ensures (chain_ready a.text.now a.words.now a.clip _))

pub loop-k-preserved : goal.loop-k-preserved
loop-k-preserved c =
    let l = c.loop-k in
    let a = c.args in
    let e = c.window_after-before.ensures ∙ l.invariant.1 in
    (omega arith, rw (e, add-one l.k) (window_after_lem a.text.now a.words.now l.k))
