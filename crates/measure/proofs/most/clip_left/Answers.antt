-- `clip_left`: its own lines, then those of its unknown tags. Assumes nothing.
use Rattle.measure.specs.Inside.Room.{room_of}
use Rattle.measure.proofs.Rooms.{leaves_then, leaves_exactly}
use Rattle.measure.proofs.Bounds.{full_by}
use Rattle.measure.proofs.most.clip_left.Goals as goal

pub returns : goal.returns
returns c =
    let a = c.args in
    rw (full_by a.clips.now a.k a.tags.now c.held_word-first.ensures c.held_word-count.ensures)
    (leaves_then a.room _ c.clip_most.result _ (room_of c.tags_room.result) c.clip_most.ensures c.in_ok-left.ensures (leaves_exactly _ _ _ c.tags_room.ensures))
