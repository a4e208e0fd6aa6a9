-- `head` meets its contract: its five groups, one behind the other. Assumes nothing.
use mathlib.Core.Path.{sym}
use Rattle.assembly.specs.Answers.{head_seen}
use Rattle.playlist.proofs.Groups.{head_text}
use Rattle.put.proofs.Putting.{puts_then, puts_as}
use Rattle.headlines.proofs.head.Goals as goal

pub returns : goal.returns
returns c =
    let s = c.args in
    puts_as (sym (head_text s.text.now (head_seen s.h))) (puts_then c.copy-version_at.ensures (puts_then c.version_lines-mark_at.ensures (puts_then c.copy_where-target_at.ensures (puts_then c.number_line-rest_at.ensures c.head_rest.ensures))))
