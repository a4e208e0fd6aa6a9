-- Lines say nothing that is refused: a reading whose steps say what lines say meets no left-out tag (5) and no length of too many digits (6). By cases on a
-- tag and on a line, then by induction. Assumes nothing.
use Prim.Native.Nat.{ℕ}
use mathlib.Core.Path.{◌≡◌, refl}
use mathlib.Core.List.{List, [], ◌∷◌, map}
use mathlib.Core.Option.{Option, none, some}
use Rattle.text.specs.BasicTags.{ext}
use Rattle.attributes.specs.ExtMap.{ext_map}
use Rattle.lengths.specs.Duration.{ns, too_many_digits, extinf}
use Rattle.tables.specs.Refusal.{Refusal, Answer}
use Rattle.tags.specs.Tags.{version, target_duration, media_sequence, discontinuity_sequence, typed, i_frames_only, independent_segments, end_list, timed, ranged, discontinuity, mapped, Tag, of_head, of_clip, unknown, comment, uri, left_out, Taken, took}
use Rattle.media.specs.Calls.{refused_tag, unless_met}
use Rattle.playlist.specs.Lines.{Line, header_line, independent_segments_line, i_frames_only_line, discontinuity_line, end_list_line, version_line, target_duration_line, media_sequence_line, discontinuity_sequence_line, playlist_type_line, map_line, byte_range_line, unknown_line, extinf_line, uri_line}
use Rattle.roundtrip.proofs.Said.{Said, tag_says, taken_says, line_says}
use Rattle.roundtrip.proofs.Assembled.{Act, for_head, for_clip, adds, ends, nothing, refuses, act}

abbrev pub refused_act : Act → Option Refusal
refused_act (for_head g) = none
refused_act (for_clip g) = none
refused_act (adds t) = none
refused_act (ends u) = none
refused_act nothing = none
refused_act (refuses r) = some r

abbrev pub refused_said : Said → Option Refusal
refused_said x = refused_act (act x)

-- what a tag is refused for follows from what it says
pub refused_says : (text : List ℕ) (t : Tag) → refused_tag t ≡ refused_said (tag_says text t)
refused_says text (of_head (version x)) = refl
refused_says text (of_head (target_duration x)) = refl
refused_says text (of_head (media_sequence x)) = refl
refused_says text (of_head (discontinuity_sequence x)) = refl
refused_says text (of_head (typed x)) = refl
refused_says text (of_head i_frames_only) = refl
refused_says text (of_head independent_segments) = refl
refused_says text (of_head end_list) = refl
refused_says text (of_clip (timed (extinf (ns l) t))) = refl
refused_says text (of_clip (timed (extinf too_many_digits t))) = refl
refused_says text (of_clip (ranged r)) = refl
refused_says text (of_clip discontinuity) = refl
refused_says text (of_clip (mapped (ext_map u r l))) = refl
refused_says text (unknown (ext name rest)) = refl
refused_says text (comment t) = refl
refused_says text (uri u) = refl
refused_says text (left_out x) = refl

-- and no line is
line_taken : (l : Line) → refused_said (line_says l) ≡ none
line_taken header_line = refl
line_taken (version_line n) = refl
line_taken independent_segments_line = refl
line_taken (target_duration_line n) = refl
line_taken (media_sequence_line n) = refl
line_taken (discontinuity_sequence_line n) = refl
line_taken (playlist_type_line t) = refl
line_taken i_frames_only_line = refl
line_taken (map_line u r) = refl
line_taken (byte_range_line r) = refl
line_taken discontinuity_line = refl
line_taken (unknown_line name rest) = refl
line_taken (extinf_line l t) = refl
line_taken (uri_line u) = refl
line_taken end_list_line = refl

-- none of what was said is refused
abbrev pub NoneRefused : List Said → Type 0
NoneRefused [] = Unit {0}
NoneRefused (x ∷ xs) = (refused_said x ≡ none) × NoneRefused xs

lines_taken : (ls : List Line) → NoneRefused (map line_says ls)
lines_taken [] = tt
lines_taken (l ∷ ls) = (line_taken l, lines_taken ls)

module _ {A : Type 0} (text : List ℕ) (answer : Answer A) where
  none_met : (ts : List Taken) → NoneRefused (map (taken_says text) ts) → unless_met ts answer ≡ answer
  unfolding unless_met
  none_met [] h = refl
  none_met (took at t ∷ ts) h = rw (refused_says text t, h.0) (none_met ts h.1)

  pub lines_met : (ts : List Taken) (ls : List Line) → map (taken_says text) ts ≡ map line_says ls → unless_met ts answer ≡ answer
  lines_met ts ls e = none_met ts (rw e (lines_taken ls))
