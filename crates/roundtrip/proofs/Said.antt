-- What a line says and what a taken tag says, in the same words, spans by their bytes; and what a line asks of itself and of what follows it. Assumes nothing.
use Prim.Native.Nat.{ℕ, ◌^◌, ◌<◌}
use mathlib.Core.Path.{◌≡◌}
use mathlib.Core.Bool.{cond, false}
use mathlib.Core.List.{List, [], ◌∷◌, ◌++◌}
use mathlib.Core.Option.{Option, none, some}
use Rattle.text.specs.Why.{Why}
use Rattle.text.specs.Nom.{fail, bytes, is_none_of, begins, is_multispace}
use Rattle.text.specs.Util.{ByteRange, range}
use Rattle.text.specs.BasicTags.{ext}
use Rattle.text.proofs.Ahead.{Every, Stops}
use Rattle.attributes.specs.ExtMap.{ext_map}
use Rattle.lengths.specs.Duration.{Length, ns, extinf}
use Rattle.tags.specs.Tags.{HeadTag, version, target_duration, media_sequence, discontinuity_sequence, typed, i_frames_only, independent_segments, end_list, ClipTag, timed, ranged, discontinuity, mapped, Tag, of_head, of_clip, unknown, comment, uri, left_out, playlist_tag, segment_tag, Taken, took}
use Rattle.text.specs.Spans.{shown, shown_part, same_bytes}
use Rattle.records.specs.Same.{ShownType, event_shown, vod_shown, other_shown, shown_type}
use Rattle.playlist.specs.Lines.{Line, header_line, independent_segments_line, i_frames_only_line, discontinuity_line, end_list_line, version_line, target_duration_line, media_sequence_line, discontinuity_sequence_line, playlist_type_line, map_line, byte_range_line, unknown_line, extinf_line, uri_line, line_bytes}
use Rattle.tables.specs.Layout.{length_limit}

pub data Said : Type 0 where
  says_version says_target says_sequence says_discontinuity_sequence : ℕ → Said
  says_type : ShownType → Said
  says_iframes says_independent says_end says_discontinuity says_nothing says_left_out : Said
  says_length : Length → Option (List ℕ) → Said
  says_range : ByteRange → Said
  says_map : List ℕ → Option ByteRange → Said
  says_unknown : List ℕ → Option (List ℕ) → Said
  says_uri : List ℕ → Said

-- ---- a tag
module _ (text : List ℕ) where
  abbrev pub head_says : HeadTag → Said
  head_says (version n) = says_version n
  head_says (target_duration n) = says_target n
  head_says (media_sequence n) = says_sequence n
  head_says (discontinuity_sequence n) = says_discontinuity_sequence n
  head_says (typed t) = says_type (shown_type text t)
  head_says i_frames_only = says_iframes
  head_says independent_segments = says_independent
  head_says end_list = says_end

  abbrev pub clip_says : ClipTag → Said
  clip_says (timed (extinf l t)) = says_length l (shown_part text t)
  clip_says (ranged r) = says_range r
  clip_says discontinuity = says_discontinuity
  clip_says (mapped (ext_map u r l)) = says_map (shown text u) r

  abbrev pub tag_says : Tag → Said
  tag_says (of_head t) = head_says t
  tag_says (of_clip t) = clip_says t
  tag_says (unknown (ext name rest)) = says_unknown (shown text name) (shown_part text rest)
  tag_says (comment c) = says_nothing
  tag_says (uri u) = says_uri (shown text u)
  tag_says (left_out x) = says_left_out

  abbrev pub taken_says : Taken → Said
  taken_says (took at t) = tag_says t

-- ---- a line
-- MediaPlaylistType::from_str of these bytes
unfoldable pub type_says : List ℕ → ShownType
type_says t = cond (same_bytes t (bytes "EVENT")) event_shown (cond (same_bytes t (bytes "VOD")) vod_shown (other_shown t))

-- a title of no bytes is none
abbrev pub title_says : List ℕ → Option (List ℕ)
title_says [] = none
title_says (x ∷ b) = some (x ∷ b)

abbrev pub line_says : Line → Said
line_says header_line = says_nothing
line_says (version_line n) = says_version n
line_says independent_segments_line = says_independent
line_says (target_duration_line n) = says_target n
line_says (media_sequence_line n) = says_sequence n
line_says (discontinuity_sequence_line n) = says_discontinuity_sequence n
line_says (playlist_type_line t) = says_type (type_says t)
line_says i_frames_only_line = says_iframes
line_says (map_line u r) = says_map u r
line_says (byte_range_line r) = says_range r
line_says discontinuity_line = says_discontinuity
line_says (unknown_line name rest) = says_unknown name rest
line_says (extinf_line l t) = says_length (ns l) (title_says t)
line_says (uri_line u) = says_uri u
line_says end_list_line = says_end

-- ---- what a line asks
-- at least one byte
abbrev pub Some : List ℕ → Type 0
Some [] = ⊥
Some (x ∷ b) = Unit {0}

abbrev pub NumbersFit : ByteRange → Type 0
NumbersFit (range n none) = n < 2 ^ 64
NumbersFit (range n (some o)) = (n < 2 ^ 64) × (o < 2 ^ 64)

abbrev pub RangeFits : Option ByteRange → Type 0
RangeFits none = Unit {0}
RangeFits (some r) = NumbersFit r

abbrev pub RestFits : Option (List ℕ) → Type 0
RestFits none = Unit {0}
RestFits (some r) = Some r × Every (is_none_of (bytes "\r\n")) r

-- of itself
abbrev pub Clean : Line → Type 0
Clean header_line = Unit {0}
Clean (version_line n) = n < 2 ^ 64
Clean independent_segments_line = Unit {0}
Clean (target_duration_line n) = n < 2 ^ 64
Clean (media_sequence_line n) = n < 2 ^ 64
Clean (discontinuity_sequence_line n) = n < 2 ^ 64
Clean (playlist_type_line t) = Some t × Every (is_none_of (bytes "\r\n")) t
Clean i_frames_only_line = Unit {0}
Clean (map_line u r) = Some u × (Every (is_none_of (bytes "\"")) u × RangeFits r)
Clean (byte_range_line r) = NumbersFit r
Clean discontinuity_line = Unit {0}
Clean (unknown_line name rest) =
    Some name × (Every (is_none_of (bytes "\r\n:")) name × (RestFits rest
    × ((xs : List ℕ) → ((why : Why) × (playlist_tag (line_bytes (unknown_line name rest) ++ xs) 0 ≡ fail why)) × ((why : Why) × (segment_tag (line_bytes (unknown_line name rest) ++ xs) 0 ≡ fail why)))))
Clean (extinf_line l t) = (l < length_limit) × Every (is_none_of (bytes "\r\n,")) t
Clean (uri_line u) = Some u × ((begins (bytes "#") u ≡ false) × (Stops is_multispace u × Every (is_none_of (bytes "\r\n")) u))
Clean end_list_line = Unit {0}

-- of what follows: no blank, which would be skipped; and behind an EXTINF no comma
abbrev pub Behind : Line → List ℕ → Type 0
Behind header_line xs = Unit {0}
Behind (version_line n) xs = Unit {0}
Behind independent_segments_line xs = Unit {0}
Behind (target_duration_line n) xs = Unit {0}
Behind (media_sequence_line n) xs = Unit {0}
Behind (discontinuity_sequence_line n) xs = Unit {0}
Behind (playlist_type_line t) xs = Unit {0}
Behind i_frames_only_line xs = Unit {0}
Behind (map_line u r) xs = Unit {0}
Behind (byte_range_line r) xs = Unit {0}
Behind discontinuity_line xs = Unit {0}
Behind (unknown_line name rest) xs = Unit {0}
Behind (extinf_line l t) xs = begins (bytes ",") xs ≡ false
Behind (uri_line u) xs = Unit {0}
Behind end_list_line xs = Unit {0}

abbrev pub Fits : Line → List ℕ → Type 0
Fits l xs = Clean l × (Stops is_multispace xs × Behind l xs)
