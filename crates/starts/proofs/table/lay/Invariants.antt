use mathlib.Core.Path.{◌≡◌}
use lib.ListN.{length}
use Rattle.tables.proofs.Laying.{laid_to}
use Rattle.clock.specs.Clock.{sum_lengths}
use Rattle.starts.specs.Table.{start_record}
use Rattle.starts.proofs.table.lay.Given as goal

abbrev pub invariant-loop-k : goal.invariant-loop-k
invariant-loop-k l = (length l.out ≡ length l.initial.out) × (l.before ≡ sum_lengths l.words l.k) × (l.out ≡ laid_to (start_record l.words l.clips l.rate l.turn) l.k l.initial.out)
