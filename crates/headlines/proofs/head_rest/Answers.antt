-- `head_rest` meets its contract: its four groups, one behind the other. Assumes nothing.
use mathlib.Core.Path.{sym}
use Rattle.assembly.specs.Answers.{head_seen}
use Rattle.playlist.proofs.Groups.{rest_text}
use Rattle.put.proofs.Putting.{puts_then, puts_as}
use Rattle.headlines.proofs.head_rest.Goals as goal

pub returns : goal.returns
returns c =
    let s = c.args in
    puts_as (sym (rest_text s.text.now (head_seen s.h))) (puts_then c.sequence_line-second_at.ensures (puts_then c.sequence_line-type_at.ensures (puts_then c.type_lines-frames_at.ensures c.copy_where.ensures)))
