-- `record::edge_clip`: word after word is laid (`Filling`). Assumes nothing.
use borrow.Author.Rules.{rules}
use mathlib.Core.Path.{refl}
use Rattle.tables.proofs.Listed.{filling_none, filling_more, filling_end}
use Rattle.tables.proofs.record.edge_clip.Goals as goal

pub loop-place-init : goal.loop-place-init
loop-place-init c = filling_none _ _ _ refl

pub loop-place-preserved : goal.loop-place-preserved
loop-place-preserved c = filling_more _ _ _ _ c.loop-place.invariant c.clip_word.result c.clip_word.ensures (search rules)

pub returns : goal.returns
returns c = filling_end _ _ _ _ c.loop-place.invariant (search rules)
