-- `bytes`: the input goes on, and the front is filled from its beginning on. The measure is what is left of it. Assumes nothing.
use Rattle.std.proofs.Common.{◌≡◌, ◌-◌, ◌≤◌, None, length}
use Rattle.input.proofs.Input.bytes.Given as goal

abbrev pub invariant-loop-filled : goal.invariant-loop-filled
invariant-loop-filled g l = (l.self.stop ≡ None) × (l.filled ≤ l.count) × (length l.front ≡ l.count) × (l.count ≤ length l.fn.text)

abbrev pub decreases-loop-filled : goal.decreases-loop-filled
decreases-loop-filled g l = l.count - l.filled
