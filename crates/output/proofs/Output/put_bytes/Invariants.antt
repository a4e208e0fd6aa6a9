use Rattle.std.specs.Prelude.{◌≡◌, List, ℕ, ◌++◌, length}
use Rattle.output.specs.Puts.{Puts, Sends}
use Rattle.output.proofs.Output.put_bytes.Given as goal

abbrev pub invariant-loop-byte : goal.invariant-loop-byte
invariant-loop-byte g l = (front : List ℕ) × (l.fn.bytes ≡ front ++ l.rest) × Puts l.fn.self l.self front × Sends g.W.Write.contents l.fn.self l.self front

abbrev pub decreases-loop-byte : goal.decreases-loop-byte
decreases-loop-byte g l = length l.rest
