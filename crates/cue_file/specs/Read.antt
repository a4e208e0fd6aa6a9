-- The reader's call (02, [3]): "the reader checks the whole file, then gives a numbered clip's start and URI span. Reader: 19, shorter than the trailer; 20,
-- version not 1; 21, a place, count or length that does not fit exactly; 22, a first start not 0, a start that falls or is above 1,000,000 s, or nanoseconds
-- of 10^9 or more; 14", each at place 0. Sums are exact. Assumes nothing.
use Rattle.std.specs.Prelude.{Bool, cond, ◌&&◌, List, ℕ, zero, suc, ◌+◌, ◌-◌, ◌*◌, leb, ltb, eqb, length}
use Rattle.text.specs.Nom.{Span, span}
use Rattle.text.specs.Spans.{shown}
use Rattle.tables.specs.Layout.{second}
use Rattle.tables.specs.Table.{every, listed}
use Rattle.tables.specs.Refusal.{Answer, given, or_refuse, no_such_clip, file_too_short, other_version, not_exact, bad_start}
use Rattle.cue_file.specs.Format.{Format, ClipRow, Trailer, clip_fields, trailer_fields, clip_row, trailer, row_at, clip_width, trailer_width, Cue}

-- "above 1,000,000 s"
abbrev pub largest_start : ℕ
largest_start = 1000000 * second

-- what the call gives: the clip's start in ns, its URI's span in the file, and how many clips there are
pub data Found : Type 0 where
  found : ℕ → Span → ℕ → Found

-- where a pass over all clips stands: how many there are, the next one, and the place of its URI
pub data Cursor : Type 0 where
  cursor : ℕ → ℕ → ℕ → Cursor

-- a step of it: a clip's number, start and URI span, and the cursor after it
pub data Step : Type 0 where
  done : Step
  clip : ℕ → ℕ → Span → Cursor → Step

module _ (f : Format) (file : List ℕ) where
  -- ---- what stands in the file
  -- "a trailer in the last twelve bytes"
  abbrev pub trailer_in : Trailer
  trailer_in = trailer (row_at (trailer_fields f.trailer_widths) file (length file - trailer_width f))

  abbrev pub count_in : ℕ
  count_in = trailer_in.count

  -- the record of clip k
  abbrev pub clip_in : ℕ → ClipRow
  clip_in k = clip_row (row_at (clip_fields f.clip_widths) file (k * clip_width f))

  abbrev pub start_in : ℕ → ℕ
  start_in k = (clip_in k).seconds * second + (clip_in k).nanoseconds

  -- the URI lengths of the first k clips, summed
  unfoldable pub lengths_in : ℕ → ℕ
  lengths_in zero = 0
  lengths_in (suc k) = lengths_in k + (clip_in k).uri_length

  -- where the URI of clip k begins: behind the records and the URIs before it
  abbrev pub uri_place : ℕ → ℕ
  uri_place k = count_in * clip_width f + lengths_in k

  abbrev pub uri_in : ℕ → Span
  uri_in k = span (uri_place k) (uri_place (suc k))

  -- the list that the file holds
  abbrev pub cue_in : ℕ → Cue
  cue_in k = record { start = start_in k; uri = shown file (uri_in k) }

  abbrev pub cues_in : List Cue
  cues_in = listed cue_in 0 count_in

  -- ---- what the file must keep
  -- 21: the records begin at 0, the URIs behind them, and the trailer behind these
  unfoldable pub fits_exactly : Bool
  fits_exactly = eqb trailer_in.records 0 && (eqb trailer_in.uris (count_in * clip_width f) && eqb (uri_place count_in + trailer_width f) (length file))

  -- 22: "a first start not 0, a start that falls"
  abbrev pub follows : ℕ → Bool
  follows zero = eqb (start_in zero) 0
  follows (suc k) = leb (start_in k) (start_in (suc k))

  -- "or is above 1,000,000 s, or nanoseconds of 10^9 or more"
  unfoldable pub start_keeps : ℕ → Bool
  start_keeps k = follows k && (leb (start_in k) largest_start && ltb (clip_in k).nanoseconds second)

  -- 19, 20, 21, 22: "checks the whole file"
  unfoldable pub judged : {A : Type 0} → Answer A → Answer A
  judged answer =
      or_refuse (leb (trailer_width f) (length file)) file_too_short 0
      (or_refuse (eqb trailer_in.version f.number) other_version 0
      (or_refuse fits_exactly not_exact 0
      (or_refuse (every start_keeps count_in) bad_start 0
      answer)))

  -- ---- the calls
  -- 19, 20, 21, 22, 14
  unfoldable pub cue_read : ℕ → Answer Found
  cue_read k = judged (or_refuse (ltb k count_in) no_such_clip 0 (given (found (start_in k) (uri_in k) count_in)))

  -- all clips in one pass. 19, 20, 21, 22, else the cursor before the first clip
  unfoldable pub cues : Answer Cursor
  cues = judged (given (cursor count_in 0 (uri_place 0)))

  -- after the last clip the pass is done; 21, where the file can't be the one that it was opened on; else the clip, and the cursor after it
  unfoldable pub next : Cursor → Answer Step
  next (cursor n k place) =
      cond (ltb k n)
      (or_refuse (leb (suc k * clip_width f) (length file) && leb (place + (clip_in k).uri_length) (length file)) not_exact 0
      (given (clip k (start_in k) (span place (place + (clip_in k).uri_length)) (cursor n (suc k) (place + (clip_in k).uri_length)))))
      (given done)
