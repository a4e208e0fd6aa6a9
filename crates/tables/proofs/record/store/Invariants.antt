use Prim.Native.Nat.{◌+◌}
use mathlib.Core.Path.{◌≡◌}
use lib.ListN.{length, drop}
use lib.Seq.{sets}
use Rattle.tables.proofs.record.store.Given as goal

abbrev pub invariant-loop-place : goal.invariant-loop-place
invariant-loop-place g l = (length l.words ≡ length l.initial.words) × (sets l.words (l.start + l.place) (drop l.place l.values) ≡ sets l.initial.words l.start l.values)
