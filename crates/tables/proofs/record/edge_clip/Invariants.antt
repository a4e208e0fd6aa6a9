use Rattle.tables.specs.Layout.{clip_words}
use Rattle.tables.specs.Table.{clip_word}
use Rattle.tables.proofs.Listed.{Filling}
use Rattle.tables.proofs.record.edge_clip.Given as goal

abbrev pub invariant-loop-place : goal.invariant-loop-place
invariant-loop-place l = Filling (clip_word l.words l.clip) clip_words l.values l.place
