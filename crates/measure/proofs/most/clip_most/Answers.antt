-- `clip_most`: its spans, and the longest numbers where its flags say that they are there. Assumes nothing.
use Rattle.measure.proofs.Bounds.{clip_most_by}
use native.Mathlib.Omega.{arith}
use Rattle.measure.proofs.most.clip_most.Goals as goal

pub returns : goal.returns
returns c =
    omega (
      arith,
      clip_most_by c.args.clips.now c.args.k c.held_word-flags.result c.requires.words_below c.held_word-flags.ensures c.has_flag.ensures c.has_flag-2.ensures c.has_flag-3.ensures,
      c.span_most-uri.ensures,
      c.span_most-title.ensures,
      c.span_most-map_uri.ensures,
      c.mark_size-range.ensures,
      c.mark_size-mark.ensures,
      c.mark_size-map.ensures,
    )
