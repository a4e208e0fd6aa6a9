-- `Cues::new`: the file is refused as it is judged, or its count gives the cursor. Assumes nothing.
use Rattle.std.proofs.Common.{rules}
use mathlib.Core.Path.{refl, sym, ◌∙◌}
use Rattle.cue_file.specs.Format.{version1}
use Rattle.cue_file.specs.Read.{cues}
use Rattle.cue_reader.proofs.Results.{judged_refused, judged_given, cues_given}
use Rattle.cue_reader.proofs.all.Cues.new.Goals as goal

pub returns-in_err-clips : goal.returns-in_err-clips
unfolding cues
returns-in_err-clips c = search rules ∙ sym (judged_refused version1 _ _ c.judged.ensures.result_value _ _ c.in_err-clips.was)

pub returns : goal.returns
returns c = sym (cues_given version1 _ _ (judged_given version1 _ _ c.judged.ensures.result_value _ c.in_ok-clips.was) _ refl)
