-- `clip_size`: its lines, those that may be missing too. Assumes nothing.
use native.Mathlib.Omega.{arith}
use lib.ListN.{length-append}
use Rattle.text.specs.Nom.{bytes}
use Rattle.attributes.specs.Answers.{opt_range_of}
use Rattle.digits.specs.Digits.{length_text}
use Rattle.playlist.specs.Lines.{discontinuity_line}
use Rattle.measure.specs.Inside.Sizes.{clip_size}
use Rattle.measure.proofs.Sizes.{where_long, range_long}
use Rattle.measure.proofs.size.clip_size.Goals as goal

pub returns-clause-size : goal.returns-clause-size
unfolding clip_size
returns-clause-size c =
    let g = c.args.c.segment in
    omega (
      arith,
      c.requires.0,
      c.map_size-maps.ensures,
      c.range_size-ranges.ensures,
      range_long (opt_range_of g.byte_range),
      c.mark_size-mark.ensures,
      where_long discontinuity_line g.discontinuity,
      c.length_size-length.ensures,
      length-append (length_text g.length) (bytes ",\n"),
      c.part_size-name.ensures,
    )
