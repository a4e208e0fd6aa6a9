use mathlib.Core.Path.{◌≡◌}
use Rattle.window.specs.Inside.Chain.{chain_start}
use Rattle.window.proofs.chain_start.Given as goal

abbrev pub invariant-loop-k : goal.invariant-loop-k
invariant-loop-k l = chain_start l.words l.clip ≡ chain_start l.words l.k
