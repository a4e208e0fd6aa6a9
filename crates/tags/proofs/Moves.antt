-- How tags move by k places: what is a place or a span goes on by k, all else stays. Assumes nothing.
use Prim.Native.Nat.{ℕ, ◌+◌}
use Rattle.text.proofs.Local.{mv_span, mv_opt, mv_range, mv_ext, mv_type}
use Rattle.attributes.proofs.Local.{mv_map}
use Rattle.lengths.proofs.Local.{mv_extinf}
use Rattle.tags.specs.Tags.{HeadTag, version, target_duration, media_sequence, discontinuity_sequence, typed, i_frames_only, independent_segments, end_list, ClipTag, timed, ranged, discontinuity, mapped, Tag, of_head, of_clip, unknown, comment, uri, left_out, Taken, took}

abbrev pub mv_head : ℕ → HeadTag → HeadTag
mv_head k (version v) = version v
mv_head k (target_duration d) = target_duration d
mv_head k (media_sequence s) = media_sequence s
mv_head k (discontinuity_sequence s) = discontinuity_sequence s
mv_head k (typed t) = typed (mv_type k t)
mv_head k i_frames_only = i_frames_only
mv_head k independent_segments = independent_segments
mv_head k end_list = end_list

abbrev pub mv_clip : ℕ → ClipTag → ClipTag
mv_clip k (timed e) = timed (mv_extinf k e)
mv_clip k (ranged r) = ranged (mv_range k r)
mv_clip k discontinuity = discontinuity
mv_clip k (mapped m) = mapped (mv_map k m)

abbrev pub mv_tag : ℕ → Tag → Tag
mv_tag k (of_head t) = of_head (mv_head k t)
mv_tag k (of_clip t) = of_clip (mv_clip k t)
mv_tag k (unknown t) = unknown (mv_ext k t)
mv_tag k (comment c) = comment (mv_opt mv_span k c)
mv_tag k (uri u) = uri (mv_span k u)
mv_tag k (left_out t) = left_out t

abbrev pub mv_taken : ℕ → Taken → Taken
mv_taken k (took from t) = took (k + from) (mv_tag k t)
