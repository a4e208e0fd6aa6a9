use Prim.Native.Nat.{◌≤◌}
use mathlib.Core.Path.{◌≡◌}
use lib.ListN.{length}
use Rattle.tables.proofs.Laying.{laid_to}
use Rattle.window.specs.Window.{window_of}
use Rattle.window.specs.After.{window_after}
use Rattle.window.specs.Answers.{answer_of}
use Rattle.windows.specs.Table.{record_of}
use Rattle.windows.proofs.table.lay.Given as goal

abbrev pub invariant-loop-k : goal.invariant-loop-k
invariant-loop-k l = (l.k ≤ l.clips) × (length l.out ≡ length l.initial.out) × (window_after l.text l.words l.k (answer_of l.before) ≡ window_of l.text l.words l.k) × (l.out ≡ laid_to (record_of l.text l.words) l.k l.initial.out)
