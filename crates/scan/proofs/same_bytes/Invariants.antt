use Prim.Native.Nat.{◌+◌}
use mathlib.Core.Path.{◌≡◌}
use mathlib.Core.Bool.{◌&&◌}
use lib.ListN.{drop}
use Rattle.text.specs.Nom.{begins}
use Rattle.scan.proofs.same_bytes.Given as goal

abbrev pub invariant-loop-k : goal.invariant-loop-k
invariant-loop-k l = begins l.tag (drop l.at l.text) ≡ (l.same && begins (drop l.k l.tag) (drop (l.at + l.k) l.text))
