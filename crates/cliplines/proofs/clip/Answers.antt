-- `clip` meets its contract: its six groups, one behind the other. Assumes nothing.
use mathlib.Core.Path.{sym}
use Rattle.assembly.specs.Answers.{clip_seen}
use Rattle.playlist.proofs.Groups.{clip_text_lem}
use Rattle.put.proofs.Putting.{puts_as, puts_then}
use Rattle.cliplines.proofs.clip.Goals as goal

pub returns : goal.returns
returns c =
    let s = c.args in
    puts_as
    (sym (clip_text_lem s.text.now s.tags.now s.tag_count (clip_seen s.c)))
    (puts_then c.map_lines-range_at.ensures (puts_then c.range_lines-mark_at.ensures (puts_then c.copy_where-tags_at.ensures (puts_then c.tag_lines-extinf_at.ensures (puts_then c.extinf_line-uri_at.ensures c.uri_line.ensures)))))
