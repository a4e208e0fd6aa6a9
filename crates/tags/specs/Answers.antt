-- What each answer of the code says, in the words of the rules. Assumes nothing.
use Rattle.std.specs.Prelude.{ℕ, Result}
use Rattle.text.specs.declared.Why as whyᵈ
use Rattle.text.specs.Nom.{Res}
use Rattle.text.specs.Answers.{span_of, part_of, res_of}
use Rattle.leaves.specs.Answers.{byte_range_of, ext_tag_of, type_of}
use Rattle.attributes.specs.Answers.{map_of}
use Rattle.lengths.specs.Answers.{extinf_of}
use Rattle.tags.specs.declared.LeftOut as leftᵈ
use Rattle.tags.specs.declared.LeftOut.TheVariants as leftᵛ
use Rattle.tags.specs.declared.Tag as tagᵈ
use Rattle.tags.specs.declared.Tag.TheVariants as tagᵛ
use Rattle.tags.specs.declared.HeadTag as headᵈ
use Rattle.tags.specs.declared.HeadTag.TheVariants as headᵛ
use Rattle.tags.specs.declared.ClipTag as clipᵈ
use Rattle.tags.specs.declared.ClipTag.TheVariants as clipᵛ
use Rattle.tags.specs.Tags.{HeadTag, version, target_duration, media_sequence, discontinuity_sequence, typed, i_frames_only, independent_segments, end_list, ClipTag, timed, ranged, discontinuity, mapped, LeftOut, start, key, program_date_time, date_range, Tag, of_head, of_clip, unknown, comment, uri, left_out}

abbrev pub head_tag_of : headᵈ.HeadTag → HeadTag
head_tag_of (headᵛ.Version v) = version v
head_tag_of (headᵛ.TargetDuration d) = target_duration d
head_tag_of (headᵛ.MediaSequence n) = media_sequence n
head_tag_of (headᵛ.DiscontinuitySequence n) = discontinuity_sequence n
head_tag_of (headᵛ.Typed t) = typed (type_of t)
head_tag_of headᵛ.IFramesOnly = i_frames_only
head_tag_of headᵛ.IndependentSegments = independent_segments
head_tag_of headᵛ.EndList = end_list

abbrev pub clip_tag_of : clipᵈ.ClipTag → ClipTag
clip_tag_of (clipᵛ.Timed e) = timed (extinf_of e)
clip_tag_of (clipᵛ.Ranged r) = ranged (byte_range_of r)
clip_tag_of clipᵛ.Discontinuity = discontinuity
clip_tag_of (clipᵛ.Mapped m) = mapped (map_of m)

abbrev pub left_out_of : leftᵈ.LeftOut → LeftOut
left_out_of leftᵛ.Start = start
left_out_of leftᵛ.Key = key
left_out_of leftᵛ.ProgramDateTime = program_date_time
left_out_of leftᵛ.DateRange = date_range

abbrev pub tag_of : tagᵈ.Tag → Tag
tag_of (tagᵛ.Head t) = of_head (head_tag_of t)
tag_of (tagᵛ.Clip t) = of_clip (clip_tag_of t)
tag_of (tagᵛ.Unknown t) = unknown (ext_tag_of t)
tag_of (tagᵛ.Comment t) = comment (part_of t)
tag_of (tagᵛ.Uri u) = uri (span_of u)
tag_of (tagᵛ.LeftOut t) = left_out (left_out_of t)

abbrev pub tag_res : Result (tagᵈ.Tag × ℕ) whyᵈ.Why → Res Tag
tag_res = res_of tag_of
