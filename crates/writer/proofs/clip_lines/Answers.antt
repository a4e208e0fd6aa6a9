-- `clip_lines` meets its contract. The loop's invariant: the clips from clip k on, put from here on, are the whole put. Assumes nothing.
use borrow.Author.Rules.{rules}
use native.Mathlib.Omega.{arith}
use Prim.Native.Nat.{◌+◌, ◌-◌}
use lib.ListN.{length}
use borrow.Rule.Slice.PartMut.{put_mid}
use Rattle.records.specs.Records.{clip_at}
use Rattle.put.specs.Put.{Puts}
use Rattle.playlist.specs.Inside.Texts.{clip_text}
use Rattle.playlist.proofs.Groups.{clips_next, clips_over}
use Rattle.put.proofs.Putting.{left_as, left_on, left_none, puts_tail, puts_long, puts_within}
use Rattle.writer.proofs.clip_lines.Goals as goal
use Rattle.writer.proofs.clip_lines.Goals.{After-clip_of-to}

-- the clip is put into the whole
put : (c : After-clip_of-to) →
    (let l = c.loop-k in let a = c.args in
    Puts l.out l.to (clip_text a.text.now a.tags.now a.tag_count (clip_at a.clips.now l.k)) (put_mid l.to (length l.out - l.to) l.out c.clip_of-to.new.out) (l.to + c.clip_of-to.result))
put c = let l = c.loop-k in puts_tail l.out l.to l.invariant.1.0 _ c.clip_of-to.ensures

pub overflow_add-to : goal.overflow_add-to
overflow_add-to c = omega (arith, puts_within (put (goal.at.overflow_add-to c).After-clip_of-to) c.loop-k.invariant.1.0, puts_long (put (goal.at.overflow_add-to c).After-clip_of-to), c.loop-k.invariant.1.1.long, c.well_formed.0.0)

pub loop-k-preserved : goal.loop-k-preserved
loop-k-preserved c =
    let a = c.args in
    let next = clips_next a.text.now a.tags.now a.tag_count a.clips.now c.loop-k.k a.clip_count (search rules) in
    (search rules, (puts_within (put (goal.at.loop-k-preserved c).After-clip_of-to) c.loop-k.invariant.1.0, left_on (left_as next c.loop-k.invariant.1.1) (put (goal.at.loop-k-preserved c).After-clip_of-to)))

pub returns : goal.returns
returns c =
    let a = c.args in
    left_none (left_as (clips_over a.text.now a.tags.now a.tag_count a.clips.now c.loop-k.k a.clip_count (search rules)) c.loop-k.invariant.1.1)
