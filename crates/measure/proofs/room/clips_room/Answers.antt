-- `clips_room`: clip after clip. Rests on `Measuring`. Assumes nothing.
use native.Mathlib.Omega.{arith}
use mathlib.Core.Path.{◌≡◌, sym}
use mathlib.Core.List.{List, ◌∷◌}
use Prim.Native.Nat.{◌+◌}
use Rattle.assembly.specs.Assembly.{Clip}
use Rattle.assembly.specs.Answers.{clip_seen}
use Rattle.records.specs.Records.{clip_at}
use Rattle.measure.proofs.Rule.{clip_run}
use Rattle.measure.specs.Inside.Sizes.{full_size, clips_size}
use Rattle.measure.proofs.Sizes.{clips_none, clips_more}
use Rattle.measure.proofs.Rooms.{fits_room, short_room, measure_more, measure_short, measure_end}
use Rattle.measure.proofs.room.clips_room.Goals as goal
use Rattle.measure.proofs.room.clips_room.Goals.{After-clip_at-c}

-- the clips from this one on: its size, and the others
long : (c : After-clip_at-c) (xs : List Clip) →
    (let a = c.args in
    clips_size a.tags.now (clip_at a.clips.now c.loop-k.k ∷ xs) ≡ full_size a.tags.now (clip_seen c.clip_at-c.result) + clips_size a.tags.now xs)
long c xs = rw (← c.clip_at-c.ensures) (clips_more c.args.tags.now (clip_seen c.clip_at-c.result) xs)

pub clip_room-requires-clause-count_bound : goal.clip_room-requires-clause-count_bound
clip_room-requires-clause-count_bound c = let k = c.loop-k.k in omega (arith, clip_run c.args.clips.now k c.clip_at-c.ensures, c.requires.runs_within k c.loop-k-test.true)

pub returns-in_err-left : goal.returns-in_err-left
returns-in_err-left c = rw c.from_residual.ensures (measure_short c.loop-k.invariant _ c.loop-k-test.true (long (goal.at.returns-in_err-left c).After-clip_at-c) (short_room _ _ (sym c.in_err-left.ensures)))

pub loop-k-preserved : goal.loop-k-preserved
loop-k-preserved c = measure_more c.loop-k.invariant _ c.loop-k-test.true (long (goal.at.loop-k-preserved c).After-clip_at-c) (fits_room _ _ (sym c.in_ok-left.ensures))

pub returns : goal.returns
returns c = measure_end c.loop-k.invariant (clips_none c.args.tags.now) c.loop-k-test.false
