use Prim.Native.Nat.{◌+◌}
use Rattle.tables.specs.Table.{listed}
use Rattle.records.specs.Records.{tag_at}
use Rattle.measure.specs.Inside.Sizes.{tags_size}
use Rattle.measure.proofs.Rooms.{Measuring}
use Rattle.measure.proofs.room.tags_room.Given as goal

abbrev pub invariant-loop-k : goal.invariant-loop-k
invariant-loop-k l = Measuring (tag_at l.tags) tags_size l.room (tags_size (listed (tag_at l.tags) l.first l.count)) (l.first + l.count) l.left l.k
