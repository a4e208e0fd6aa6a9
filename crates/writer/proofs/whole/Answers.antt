-- `whole` meets its contract: head, clips and end, one behind the other. Assumes nothing.
use borrow.Author.Rules.{rules}
use mathlib.Core.Path.{sym}
use Rattle.assembly.specs.Answers.{head_seen}
use Rattle.playlist.proofs.Groups.{written_text_lem}
use Rattle.put.proofs.Putting.{puts_as, puts_then, puts_within}
use Rattle.writer.proofs.whole.Goals as goal

pub clip_lines-end_at-requires : goal.clip_lines-end_at-requires
clip_lines-end_at-requires c = puts_within c.head-clips_at.ensures (search rules)

pub returns : goal.returns
returns c =
    let s = c.args in
    puts_as (sym (written_text_lem s.text.now (head_seen s.h) s.clips.now s.clip_count s.tags.now s.tag_count)) (puts_then c.head-clips_at.ensures (puts_then c.clip_lines-end_at.ensures c.copy_where.ensures))
