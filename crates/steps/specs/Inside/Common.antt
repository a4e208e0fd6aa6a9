-- What most lines of a list are: URIs, and EXTINFs that read. Each is told as the step takes it, apart from all else that a step may come to. Assumes nothing.
use Rattle.std.specs.Prelude.{ℕ, Bool, cond, List, ltb, length}
use Rattle.std.proofs.Math.Option.{Option, none, some}
use Rattle.text.specs.Nom.{Res, fail, ok, Span, bytes, tagged}
use Rattle.lengths.specs.Duration.{Extinf, is_long}
use Rattle.tags.specs.Tags.{timed_of, Tag, of_head, of_clip, unknown, comment, uri, left_out, literal, extinf_row, media_playlist_tag}

-- ---- what a line can be, by how it begins: a URI where it does not begin with `#`
pub data Kind : Type 0 where
  uri_kind extinf_kind other_kind : Kind

abbrev pub kind_at : List ℕ → ℕ → Kind
kind_at text at =
    cond (ltb at (length text))
    (cond (tagged (bytes "#") text at) (cond (tagged (literal extinf_row) text at) extinf_kind other_kind) uri_kind)
    other_kind

-- ---- a line with its value, and the place after it
pub data Common : Type 0 where
  takes_uri : Span → ℕ → Common
  takes_extinf : Extinf → ℕ → Common
  takes_other : Common

abbrev pub common_clip : Option Extinf → ℕ → Common
common_clip none n = takes_other
common_clip (some e) n = takes_extinf e n

-- in what a step comes to. A line that begins with `#` (`hash`) is a URI only where the text ends before the line does: it is rare, and counts as other
abbrev pub common_in : Bool → Res Tag → Common
common_in hash (fail why) = takes_other
common_in hash (ok (of_head t) n) = takes_other
common_in hash (ok (of_clip t) n) = common_clip (timed_of t) n
common_in hash (ok (unknown t) n) = takes_other
common_in hash (ok (comment c) n) = takes_other
common_in hash (ok (uri s) n) = cond hash takes_other (takes_uri s n)
common_in hash (ok (left_out t) n) = takes_other

abbrev pub common_at : List ℕ → ℕ → Common
common_at text at = common_in (tagged (bytes "#") text at) (media_playlist_tag text at)

-- ---- the same without the values: whether an EXTINF has too many digits, and the place after the line
pub data CommonEnd : Type 0 where
  ends_uri : ℕ → CommonEnd
  ends_extinf : Bool → ℕ → CommonEnd
  ends_other : CommonEnd

abbrev pub end_in : Common → CommonEnd
end_in (takes_uri s n) = ends_uri n
end_in (takes_extinf e n) = ends_extinf (is_long e) n
end_in takes_other = ends_other
