-- `clip_of`: the record of the parts that were read, each as its call ensures. Assumes nothing.
use Rattle.assembly.specs.Assembly.{segment, clip}
use Rattle.tables.specs.Layout as layout
use Rattle.tables.specs.Table.{clip_word}
use Rattle.records.specs.Records.{clip_at}
use Rattle.records.proofs.clip_of.Goals as goal

pub returns : goal.returns
unfolding clip_at
returns c =
    let word = clip_word c.args.words.now 0 in
    λ i.
    clip (c.clip_span-uri.ensures i)
    (segment (word layout.length_ns) (c.title_at-title.ensures i) (c.range_at-byte_range.ensures i) (c.has_flag.ensures i) (c.map_at-map.ensures i))
    (word layout.first_tag)
    (word layout.tag_count)
