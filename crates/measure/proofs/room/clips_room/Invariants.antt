use Rattle.records.specs.Records.{clip_at, clips_at}
use Rattle.measure.specs.Inside.Sizes.{clips_size}
use Rattle.measure.proofs.Rooms.{Measuring}
use Rattle.measure.proofs.room.clips_room.Given as goal

abbrev pub invariant-loop-k : goal.invariant-loop-k
invariant-loop-k l = Measuring (clip_at l.clips) (clips_size l.tags) l.room (clips_size l.tags (clips_at l.clips l.clip_count)) l.clip_count l.left l.k
