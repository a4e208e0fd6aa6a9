-- `read`: the file is refused as it is judged, or the clip is (14), or given. What fits exactly bounds every sum (`records_within`, `uri_within`). Assumes nothing.
use Rattle.std.proofs.Common.{rules}
use native.Mathlib.Omega.{arith}
use mathlib.Core.Path.{sym, ap, ◌∙◌}
use Rattle.cue_file.specs.Format.{version1}
use Rattle.cue_file.specs.Read.{cue_read}
use Rattle.cue_reader.specs.Answers.{clips_of}
use Rattle.cue_reader.proofs.Results.{Counted, judged_refused, judged_given, records_within, read_14, read_given}
use Rattle.cue_reader.proofs.read.Goals as goal
use Rattle.cue_reader.proofs.read.Goals.{Else-clips-clip}

-- the count in hand is that of the file, which was judged
counted : (c : Else-clips-clip) → Counted version1 c.args.file.now c.in_ok-clips.clips
counted c = judged_given version1 _ _ c.judged.ensures.result_value _ c.in_ok-clips.was

pub returns-in_err-clips : goal.returns-in_err-clips
unfolding cue_read
returns-in_err-clips c = search rules ∙ sym (judged_refused version1 _ _ c.judged.ensures.result_value _ _ c.in_err-clips.was)

pub returns-then-clips-clip : goal.returns-then-clips-clip
returns-then-clips-clip c =
    let w = judged_given version1 _ _ c.judged.ensures.result_value _ c.in_ok-clips.was in
    sym (read_14 version1 _ _ w _ c.if-clips-clip.true)

pub lengths-requires : goal.lengths-requires
lengths-requires c =
    let b = c.judged.ensures.by_index _ (ap clips_of c.in_ok-clips.was) in
    (omega (arith, b), omega (arith, records_within version1 _ _ (counted (goal.at.lengths-requires c).Else-clips-clip)))

pub uri_length-requires : goal.uri_length-requires
uri_length-requires c = omega (arith, records_within version1 _ _ (counted (goal.at.uri_length-requires c).Else-clips-clip))

pub start-requires : goal.start-requires
start-requires c = omega (arith, records_within version1 _ _ (counted (goal.at.start-requires c).Else-clips-clip))

pub returns : goal.returns
returns c =
    let from = c.lengths.ensures.0 in let to = c.uri_length.ensures.0 in
    sym (read_given version1 _ _ (counted (goal.at.returns c).Else-clips-clip) _ _ _ _ c.if-clips-clip.false c.start.ensures (omega (arith, from)) (omega (arith, to)))
