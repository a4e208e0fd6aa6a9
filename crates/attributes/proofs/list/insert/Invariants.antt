use Prim.Native.Nat.{◌≤◌}
use mathlib.Core.Path.{◌≡◌}
use lib.ListN.{length, drop}
use Rattle.text.specs.Answers.{span_of}
use Rattle.attributes.specs.Pairs.{pair, words}
use Rattle.attributes.specs.Inside.Insert.{inserted_from}
use Rattle.attributes.specs.Answers.{value_of}
use Rattle.attributes.proofs.list.insert.Given as goal

abbrev pub invariant-loop-n : goal.invariant-loop-n
invariant-loop-n l =
    let p = pair (span_of l.name) (value_of l.value) in
    (inserted_from l.text p 0 (words l.names l.sizes) l.initial.held ≡ inserted_from l.text p l.n (words (drop l.start l.names) (drop l.n l.sizes)) l.held)
    × (l.start ≤ length l.names)
    × (length l.held ≡ length l.initial.held)
