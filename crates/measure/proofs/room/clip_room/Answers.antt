-- `clip_room`: its own lines, then those of its unknown tags. Assumes nothing.
use native.Mathlib.Omega.{arith}
use mathlib.Core.Path.{◌∙◌}
use Rattle.measure.proofs.Rooms.{room_then, room_then_short}
use Rattle.measure.proofs.room.clip_room.Goals as goal

pub returns-in_err-left : goal.returns-in_err-left
returns-in_err-left c = rw (c.from_residual.ensures, ← c.clip_size.ensures.size) (room_then_short c.args.room c.clip_size.result _ (omega (arith, c.in_err-left.ensures)))

pub returns : goal.returns
returns c = rw (← c.clip_size.ensures.size) (c.tags_room.ensures ∙ room_then c.args.room c.clip_size.result _ c.in_ok-left.ensures)
