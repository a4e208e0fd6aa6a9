use mathlib.Core.Path.{◌≡◌}
use Rattle.verdict.specs.Verdict.{verdict_from}
use Prim.Native.Nat.{◌-◌}
use lib.ListN.{length}
use Rattle.verdict.proofs.lines.verdict_from.Given as goal

abbrev pub invariant-loop-says : goal.invariant-loop-says
invariant-loop-says l = verdict_from l.text l.at-2 ≡ verdict_from l.text l.at

abbrev pub decreases-loop-says : goal.decreases-loop-says
decreases-loop-says l = length l.text - l.at
