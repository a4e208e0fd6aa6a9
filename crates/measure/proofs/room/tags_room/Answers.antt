-- `tags_room`: tag after tag. Rests on `Measuring`. Assumes nothing.
use native.Mathlib.Omega.{arith}
use mathlib.Core.Path.{◌≡◌, ◌∙◌, ap}
use mathlib.Core.List.{List, ◌∷◌}
use Prim.Native.Nat.{◌+◌}
use Rattle.text.specs.BasicTags.{ExtTag}
use Rattle.records.specs.Records.{tag_at}
use Rattle.measure.specs.Inside.Sizes.{tag_size, tags_size}
use Rattle.measure.proofs.Sizes.{tags_none, tags_more}
use Rattle.measure.proofs.Rooms.{measure_more, measure_short, measure_end}
use Rattle.measure.proofs.room.tags_room.Goals as goal
use Rattle.measure.proofs.room.tags_room.Goals.{After-tag_size}

-- the tags from this one on: its size, and the others
long : (c : After-tag_size) (xs : List ExtTag) → tags_size (tag_at c.args.tags.now c.loop-k.k ∷ xs) ≡ c.tag_size.result + tags_size xs
long c xs =
    let size = c.tag_size.ensures.size ∙ ap tag_size c.tag_at-t.ensures in
    omega (arith, size, tags_more (tag_at c.args.tags.now c.loop-k.k) xs)

pub returns-in_err-left : goal.returns-in_err-left
returns-in_err-left c = rw c.from_residual.ensures (measure_short c.loop-k.invariant _ c.loop-k-test.true (long (goal.at.returns-in_err-left c).After-tag_size) (omega (arith, c.in_err-left.ensures)))

pub loop-k-preserved : goal.loop-k-preserved
loop-k-preserved c = measure_more c.loop-k.invariant _ c.loop-k-test.true (long (goal.at.loop-k-preserved c).After-tag_size) c.in_ok-left.ensures

pub returns : goal.returns
returns c = measure_end c.loop-k.invariant tags_none c.loop-k-test.false
