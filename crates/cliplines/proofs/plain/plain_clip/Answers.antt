-- `plain_clip` meets its contract: its lines, one behind the other, by its words. Assumes nothing.
use Rattle.put.proofs.Putting.{puts_as, puts_then}
use Rattle.cliplines.proofs.Words.{words_text}
use Rattle.cliplines.proofs.plain.plain_clip.Goals as goal

pub returns : goal.returns
returns c =
    let a = c.args in
    puts_as
    (words_text a.text.now a.clips.now a.k c.held_word-flags.ensures c.held_word-length.ensures c.held_word-offset.ensures c.held_word-ns.ensures c.held_span-title.ensures c.held_span-uri.ensures)
    (puts_then c.range_lines-extinf_at.ensures (puts_then c.extinf_shown-uri_at.ensures c.uri_line.ensures))
