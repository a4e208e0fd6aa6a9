use Prim.Native.Nat.{◌+◌, ◌*◌, ◌≤◌}
use mathlib.Core.Path.{◌≡◌}
use Rattle.cue_file.specs.Format.{version1, clip_width, trailer_width}
use Rattle.cue_writer.specs.Inside.Measure.{uris_size}
use Rattle.cue_writer.proofs.measure.size.Given as goal

abbrev pub invariant-loop-k : goal.invariant-loop-k
invariant-loop-k l = (l.k ≤ l.clips) × (l.sum ≡ l.clips * clip_width version1 + trailer_width version1 + uris_size l.words l.k)
