use Prim.Native.Nat.{◌≤◌}
use mathlib.Core.Path.{◌≡◌}
use Rattle.window.specs.Window.{window_of}
use Rattle.window.specs.After.{window_after}
use Rattle.window.specs.Answers.{answer_of}
use Rattle.window.proofs.window_of.Given as goal

abbrev pub invariant-loop-k : goal.invariant-loop-k
invariant-loop-k l = (l.k ≤ l.clip) × (window_after l.text l.words l.k (answer_of l.before) ≡ window_of l.text l.words l.k)
