-- `whole_left`: head and end, then the clips. Assumes nothing.
use native.Mathlib.Omega.{arith}
use Prim.Native.Nat.{◌+◌}
use Rattle.playlist.specs.Lines.{end_list_line}
use Rattle.measure.specs.Inside.Room.{room_of}
use Rattle.measure.proofs.Sizes.{where_long}
use Rattle.measure.proofs.Rooms.{leaves_then}
use Rattle.measure.proofs.most.whole_left.Goals as goal

pub returns : goal.returns
returns c =
    let a = c.args in
    leaves_then a.room _ (c.head_size-head.result + c.mark_size-end.result) _ (room_of c.clips_left.result)
    (omega (arith, c.head_size-head.ensures.size, c.mark_size-end.ensures.size, where_long end_list_line a.h.end_list))
    c.in_ok-left.ensures c.clips_left.ensures
