use Prim.Native.Nat.{◌≤◌}
use mathlib.Core.Path.{◌≡◌}
use lib.ListN.{length, drop}
use Rattle.text.specs.Answers.{span_of}
use Rattle.attributes.specs.Pairs.{words, named}
use Rattle.attributes.proofs.list.is_named.Given as goal

abbrev pub invariant-loop-size : goal.invariant-loop-size
invariant-loop-size l = (named l.text (span_of l.part) (words l.names l.sizes) ≡ named l.text (span_of l.part) (words (drop l.start l.names) (drop l.size-index l.sizes))) × (l.start ≤ length l.names)
