use Prim.Native.Nat.{◌-◌}
use mathlib.Core.Path.{◌≡◌}
use Rattle.text.specs.Utf8.{utf8_end}
use Rattle.utf8.proofs.first_end.Given as goal

abbrev pub invariant-loop-end : goal.invariant-loop-end
invariant-loop-end l = utf8_end l.text 0 ≡ utf8_end l.text l.end

abbrev pub decreases-loop-end : goal.decreases-loop-end
decreases-loop-end l = 3 - l.end
