-- `head_size`: its lines, those that may be missing too. Assumes nothing.
use native.Mathlib.Omega.{arith}
use mathlib.Core.Path.{refl}
use lib.ListN.{length-append}
use Rattle.text.specs.Nom.{bytes}
use Rattle.digits.specs.Digits.{number_text}
use Rattle.tags.specs.Tags.{literal, media_sequence_row, discontinuity_sequence_row}
use Rattle.playlist.specs.Lines.{independent_segments_line, media_sequence_line, discontinuity_sequence_line, i_frames_only_line}
use Rattle.measure.specs.Inside.Sizes.{head_size}
use Rattle.measure.proofs.Sizes.{where_long, unless_zero_long}
use Rattle.measure.proofs.size.head_size.Goals as goal

pub returns-clause-size : goal.returns-clause-size
unfolding head_size
returns-clause-size c =
    let h = c.args.h in
    omega (
      arith,
      c.version_size-versions.ensures,
      c.mark_size-independent.ensures,
      where_long independent_segments_line h.independent_segments,
      c.number_size-target.ensures,
      length-append (number_text h.target_duration) (bytes "\n"),
      c.sequence_size-sequence.ensures,
      unless_zero_long media_sequence_line (literal media_sequence_row) h.media_sequence refl,
      c.sequence_size-discontinuities.ensures,
      unless_zero_long discontinuity_sequence_line (literal discontinuity_sequence_row) h.discontinuity_sequence refl,
      c.type_size-types.ensures,
      c.mark_size-frames.ensures,
      where_long i_frames_only_line h.i_frames_only,
    )
