-- `uris`: the URIs from clip k on, put from here on, are the whole put. Assumes nothing.
use borrow.Author.Rules.{rules}
use mathlib.Core.Path.{ap}
use Rattle.tables.proofs.Listed.{listed_over}
use Rattle.put.proofs.Putting.{left_as, left_on, left_none}
use Rattle.cue_file.specs.Format.{uris}
use Rattle.cue_file.specs.Write.{cue_of}
use Rattle.cue_file.proofs.Sizes.{uris_left}
use Rattle.cue_writer.proofs.rows.uris.Goals as goal

pub loop-k-preserved : goal.loop-k-preserved
loop-k-preserved c =
    let a = c.args in
    let left = uris_left (cue_of a.text.now a.words.now) c.loop-k.k a.clips (search rules) in
    (search rules, left_on (left_as left c.loop-k.invariant.1) c.uri-to.ensures)

pub returns : goal.returns
unfolding uris
returns c =
    let a = c.args in
    let none = ap uris (listed_over (cue_of a.text.now a.words.now) c.loop-k.k a.clips (search rules)) in
    left_none (left_as none c.loop-k.invariant.1)
