use Prim.Native.Nat.{◌*◌, ◌≤◌}
use mathlib.Core.Path.{◌≡◌}
use Rattle.cue_file.specs.Format.{version1}
use Rattle.cue_file.specs.Read.{lengths_in}
use Rattle.cue_reader.proofs.lengths.Given as goal

abbrev pub invariant-loop-k : goal.invariant-loop-k
invariant-loop-k l = (l.k ≤ l.clips) × (l.sum ≡ lengths_in version1 l.file l.k) × (l.sum ≤ l.k * 65535)
