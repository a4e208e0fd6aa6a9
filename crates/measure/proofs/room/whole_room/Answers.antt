-- `whole_room`: head and end, then the clips. Assumes nothing.
use native.Mathlib.Omega.{arith}
use mathlib.Core.Path.{◌≡◌, ◌∙◌}
use Prim.Native.Nat.{◌+◌}
use lib.ListN.{length}
use Rattle.assembly.specs.Answers.{head_seen}
use Rattle.playlist.specs.Lines.{end_list_line, end_lines, lines_text}
use Rattle.measure.specs.Inside.Sizes.{head_size}
use Rattle.measure.proofs.Sizes.{where_long}
use Rattle.measure.proofs.Rooms.{room_then, room_then_short}
use Rattle.measure.proofs.room.whole_room.Goals as goal
use Rattle.measure.proofs.room.whole_room.Goals.{After-mark_size-end}

-- head and end
ends : (c : After-mark_size-end) →
    (let h = head_seen c.args.h in c.head_size-head.result + c.mark_size-end.result ≡ head_size h + length (lines_text (end_lines h)))
ends c = omega (arith, c.head_size-head.ensures.size, c.mark_size-end.ensures.size, where_long end_list_line c.args.h.end_list)

pub returns-in_err-left : goal.returns-in_err-left
returns-in_err-left c = rw (c.from_residual.ensures, ← (ends (goal.at.returns-in_err-left c).After-mark_size-end)) (room_then_short c.args.room (c.head_size-head.result + c.mark_size-end.result) _ (omega (arith, c.in_err-left.ensures)))

pub returns : goal.returns
returns c = rw (← (ends (goal.at.returns c).After-mark_size-end)) (c.clips_room.ensures ∙ room_then c.args.room (c.head_size-head.result + c.mark_size-end.result) _ c.in_ok-left.ensures)
