-- `numbers`: the input goes on from number to number. Assumes nothing.
use Rattle.std.proofs.Common.{◌≡◌, None}
use Rattle.input.proofs.Input.numbers.Given as goal

abbrev pub invariant-loop-word : goal.invariant-loop-word
invariant-loop-word g l = l.self.stop ≡ None
