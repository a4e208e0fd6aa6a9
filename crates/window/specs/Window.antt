-- The byte window of a clip (02, [1]; RFC 8216, 4.3.2.2): the part of its resource that its range names, and the call's refusals in 02's order, each at
-- place 0. Sums are exact, so that a chain of ranges without a beginning is 16 however long it is. Assumes nothing.
use Rattle.std.specs.Prelude.{Bool, cond, ◌&&◌, List, ℕ, zero, suc, ◌+◌, ◌-◌, ◌^◌, leb, ltb, length}
use Rattle.std.proofs.Math.Option.{Option, some}
use Rattle.std.proofs.Math.Option as option
use Rattle.text.specs.Nom.{Span, span}
use Rattle.text.specs.Spans.{span_in, shown, same_bytes}
use Rattle.tables.specs.Layout as layout
use Rattle.tables.specs.Table.{every, clips_fit, clip_word, has_flag}
use Rattle.tables.specs.Refusal.{Answer, refused, given, or_refuse, text_too_long, broken_table, no_such_clip, window_too_far, no_range_before}
use Rattle.tables.specs.Layout.{text_limit}

-- without a range, the answer none
pub data Window : Type 0 where
  none : Window
  range : ℕ → ℕ → Window

-- its numbers: none has start and end 0
abbrev pub start_of : Window → ℕ
start_of none = 0
start_of (range start end) = start

abbrev pub end_of : Window → ℕ
end_of none = 0
end_of (range start end) = end

abbrev pub largest_end : ℕ
largest_end = 2 ^ 64 - 1

-- ---- a clip's words: "#EXT-X-BYTERANGE:<n>[@<o>]", and its URI
module _ (t : List ℕ) where
  abbrev pub flags_of : ℕ → ℕ
  flags_of clip = clip_word t clip layout.flags

  -- "a Media Segment is a sub-range of the resource identified by its URI"
  abbrev pub is_sub_range : ℕ → Bool
  is_sub_range clip = has_flag (flags_of clip) layout.has_range

  -- "n is a decimal-integer indicating the length of the sub-range in bytes"
  abbrev pub n_of : ℕ → ℕ
  n_of clip = clip_word t clip layout.range_length

  -- "If present, o is a decimal-integer indicating the start of the sub-range, as a byte offset from the beginning of the resource"
  abbrev pub has_o : ℕ → Bool
  has_o clip = has_flag (flags_of clip) layout.has_range_offset

  abbrev pub o_of : ℕ → ℕ
  o_of clip = clip_word t clip layout.range_offset

  abbrev pub uri_of : ℕ → Span
  uri_of clip = span (clip_word t clip layout.uri_start) (clip_word t clip layout.uri_end)

  -- o where it is present, else what the clips before say
  abbrev pub o_or : ℕ → Option ℕ → Option ℕ
  o_or clip before = cond (has_o clip) (some (o_of clip)) before

-- ---- the chain
-- the next byte following a sub-range
abbrev pub end_from : Option ℕ → ℕ → Option ℕ
end_from option.none n = option.none
end_from (some start) n = some (start + n)

-- the window of n bytes from a start, its end being start plus n: 16 where it starts nowhere, then 15
abbrev pub range_from : Option ℕ → ℕ → Answer Window
range_from option.none n = refused no_range_before 0
range_from (some start) n = or_refuse (leb (start + n) largest_end) window_too_far 0 (given (range start (start + n)))

module _ (text t : List ℕ) where
  -- "of the same media resource": "same URI bytes", of two spans within the text
  unfoldable pub same_resource : ℕ → ℕ → Bool
  same_resource a b = span_in text (uri_of t a) && (span_in text (uri_of t b) && same_bytes (shown text (uri_of t a)) (shown text (uri_of t b)))

  -- "If o is not present, the sub-range begins at the next byte following the sub-range of the previous Media Segment"; "a previous Media Segment MUST
  -- appear in the Playlist file and MUST be a sub-range of the same media resource, or the Media Segment is undefined"
  unfoldable pub range_start : ℕ → Option ℕ
  range_start zero = o_or t zero option.none
  range_start (suc k) = o_or t (suc k) (cond (is_sub_range t k && same_resource k (suc k)) (end_from (range_start k) (n_of t k)) option.none)

  -- none, or 16, 15
  unfoldable pub window_of : ℕ → Answer Window
  window_of clip = cond (is_sub_range t clip) (range_from (range_start clip) (n_of t clip)) (given none)

  -- ---- the call
  -- "9 takes in every clip's flags and URI span"
  unfoldable pub clip_keeps : ℕ → Bool
  clip_keeps k = ltb (flags_of t k) layout.flag_limit && span_in text (uri_of t k)

  unfoldable pub keeps_rule : ℕ → Bool
  keeps_rule n = clips_fit t n && every clip_keeps n

  -- 1, 9: what every call that gives windows weighs first
  unfoldable pub over_clips : {A : Type 0} → ℕ → Answer A → Answer A
  over_clips n answer =
      or_refuse (leb (length text) text_limit) text_too_long 0
      (or_refuse (keeps_rule n) broken_table 0
      answer)

  -- 1, 9, 14; then 16, 15
  unfoldable pub window : ℕ → ℕ → Answer Window
  window n clip =
      over_clips n
      (or_refuse (ltb clip n) no_such_clip 0
      (window_of clip))
