-- No second answer meets a contract: from what an answer says there is a way back to it, as in text's `Only`. Assumes nothing.
use mathlib.Core.Path.{◌≡◌, refl, ap}
use Rattle.text.proofs.Only.{Only, only_by, res_only, span_back, part_back, part_back_lem}
use Rattle.leaves.proofs.Only.{byte_range_back, byte_range_back_lem, ext_tag_back, ext_tag_back_lem, type_back, type_back_lem}
use Rattle.attributes.proofs.Only.{map_back_lem, map_back}
use Rattle.lengths.proofs.Only.{extinf_back, extinf_back_lem}
use Rattle.tags.specs.declared.HeadTag as headᵈ
use Rattle.tags.specs.declared.HeadTag.TheVariants as headᵛ
use Rattle.tags.specs.declared.ClipTag as clipᵈ
use Rattle.tags.specs.declared.ClipTag.TheVariants as clipᵛ
use Rattle.tags.specs.declared.LeftOut as leftᵈ
use Rattle.tags.specs.declared.LeftOut.TheVariants as leftᵛ
use Rattle.tags.specs.declared.Tag as tagᵈ
use Rattle.tags.specs.declared.Tag.TheVariants as tagᵛ
use Rattle.tags.specs.Tags.{HeadTag, version, target_duration, media_sequence, discontinuity_sequence, typed, i_frames_only, independent_segments, end_list, ClipTag, timed, ranged, discontinuity, mapped, LeftOut, start, key, program_date_time, date_range, Tag, of_head, of_clip, unknown, comment, uri, left_out}
use Rattle.tags.specs.Answers.{head_tag_of, clip_tag_of, left_out_of, tag_of, tag_res}

abbrev pub head_back : HeadTag → headᵈ.HeadTag
head_back (version v) = headᵛ.Version v
head_back (target_duration d) = headᵛ.TargetDuration d
head_back (media_sequence n) = headᵛ.MediaSequence n
head_back (discontinuity_sequence n) = headᵛ.DiscontinuitySequence n
head_back (typed t) = headᵛ.Typed (type_back t)
head_back i_frames_only = headᵛ.IFramesOnly
head_back independent_segments = headᵛ.IndependentSegments
head_back end_list = headᵛ.EndList

pub head_back_lem : (t : headᵈ.HeadTag) → head_back (head_tag_of t) ≡ t
head_back_lem (headᵛ.Version v) = refl
head_back_lem (headᵛ.TargetDuration d) = refl
head_back_lem (headᵛ.MediaSequence n) = refl
head_back_lem (headᵛ.DiscontinuitySequence n) = refl
head_back_lem (headᵛ.Typed t) = ap headᵛ.Typed (type_back_lem t)
head_back_lem headᵛ.IFramesOnly = refl
head_back_lem headᵛ.IndependentSegments = refl
head_back_lem headᵛ.EndList = refl

pub head_only : Only head_tag_of
head_only = only_by head_tag_of head_back head_back_lem

abbrev pub clip_back : ClipTag → clipᵈ.ClipTag
clip_back (timed e) = clipᵛ.Timed (extinf_back e)
clip_back (ranged r) = clipᵛ.Ranged (byte_range_back r)
clip_back discontinuity = clipᵛ.Discontinuity
clip_back (mapped m) = clipᵛ.Mapped (map_back_lem m)

pub clip_back_lem : (t : clipᵈ.ClipTag) → clip_back (clip_tag_of t) ≡ t
clip_back_lem (clipᵛ.Timed e) = ap clipᵛ.Timed (extinf_back_lem e)
clip_back_lem (clipᵛ.Ranged r) = ap clipᵛ.Ranged (byte_range_back_lem r)
clip_back_lem clipᵛ.Discontinuity = refl
clip_back_lem (clipᵛ.Mapped m) = ap clipᵛ.Mapped (map_back m)

pub clip_only : Only clip_tag_of
clip_only = only_by clip_tag_of clip_back clip_back_lem

abbrev pub left_out_back : LeftOut → leftᵈ.LeftOut
left_out_back start = leftᵛ.Start
left_out_back key = leftᵛ.Key
left_out_back program_date_time = leftᵛ.ProgramDateTime
left_out_back date_range = leftᵛ.DateRange

pub left_out_back_lem : (t : leftᵈ.LeftOut) → left_out_back (left_out_of t) ≡ t
left_out_back_lem leftᵛ.Start = refl
left_out_back_lem leftᵛ.Key = refl
left_out_back_lem leftᵛ.ProgramDateTime = refl
left_out_back_lem leftᵛ.DateRange = refl

abbrev pub tag_back_lem : Tag → tagᵈ.Tag
tag_back_lem (of_head t) = tagᵛ.Head (head_back t)
tag_back_lem (of_clip t) = tagᵛ.Clip (clip_back t)
tag_back_lem (unknown t) = tagᵛ.Unknown (ext_tag_back t)
tag_back_lem (comment c) = tagᵛ.Comment (part_back c)
tag_back_lem (uri u) = tagᵛ.Uri (span_back u)
tag_back_lem (left_out t) = tagᵛ.LeftOut (left_out_back t)

pub tag_back : (t : tagᵈ.Tag) → tag_back_lem (tag_of t) ≡ t
tag_back (tagᵛ.Head t) = ap tagᵛ.Head (head_back_lem t)
tag_back (tagᵛ.Clip t) = ap tagᵛ.Clip (clip_back_lem t)
tag_back (tagᵛ.Unknown t) = ap tagᵛ.Unknown (ext_tag_back_lem t)
tag_back (tagᵛ.Comment c) = ap tagᵛ.Comment (part_back_lem c)
tag_back (tagᵛ.Uri u) = refl
tag_back (tagᵛ.LeftOut t) = ap tagᵛ.LeftOut (left_out_back_lem t)

pub tag_only : Only tag_of
tag_only = only_by tag_of tag_back_lem tag_back

pub tag_res_only : Only tag_res
tag_res_only = res_only tag_of tag_back_lem tag_back
