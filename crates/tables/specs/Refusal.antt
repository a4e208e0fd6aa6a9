-- 01's table "Numbers given back", and the numbers that 02's requests add: each refusal by name, with the words of its row, and a public call's answer.
-- Assumes nothing.
use Rattle.std.specs.Prelude.{ℕ, Bool, true, false, List, ◌++◌, length, drop}

pub data Refusal : Type 0 where
  -- text above 65,536 bytes
  text_too_long : Refusal
  -- text is not UTF-8
  not_utf8 : Refusal
  -- text doesn't begin `#EXTM3U`
  no_header : Refusal
  -- verdict is master
  is_master : Refusal
  -- the reading meets a left-out tag
  left_out_tag : Refusal
  -- an EXTINF that reads has over 9 digits before or after the point
  too_many_digits : Refusal
  -- a record's words x clips exceeds the clip table's words
  clip_table_short : Refusal
  -- a record's words x kept unknown tags exceeds the tag table's words
  tag_table_short : Refusal
  -- a table breaks its rule
  broken_table : Refusal
  -- output shorter than the text to write
  output_short : Refusal
  -- total above 10^15 ns
  total_too_long : Refusal
  -- rate not 1 to 90,000
  bad_rate : Refusal
  -- turn above 999,999
  turn_too_late : Refusal
  -- no such clip
  no_such_clip : Refusal
  -- window's end above 2^64 - 1
  window_too_far : Refusal
  -- 02, [1]: no offset and no such previous range, here or back along the chain
  no_range_before : Refusal
  -- 02, [2]: no clips or total 0
  nothing_plays : Refusal
  -- 02, [2]: t at or past the start tick of turn 1,000,000
  tick_too_late : Refusal
  -- 02, [3]: shorter than the trailer
  file_too_short : Refusal
  -- 02, [3]: version not 1
  other_version : Refusal
  -- 02, [3]: a place, count or length that does not fit exactly
  not_exact : Refusal
  -- 02, [3]: a first start not 0, a start that falls or is above 1,000,000 s, or nanoseconds of 10^9 or more
  bad_start : Refusal
  -- 02, [3]: a count, URI length or place too wide for its field
  too_wide : Refusal

-- the number of its row
abbrev pub number_of : Refusal → ℕ
number_of text_too_long = 1
number_of not_utf8 = 2
number_of no_header = 3
number_of is_master = 4
number_of left_out_tag = 5
number_of too_many_digits = 6
number_of clip_table_short = 7
number_of tag_table_short = 8
number_of broken_table = 9
number_of output_short = 10
number_of total_too_long = 11
number_of bad_rate = 12
number_of turn_too_late = 13
number_of no_such_clip = 14
number_of window_too_far = 15
number_of no_range_before = 16
number_of nothing_plays = 17
number_of tick_too_late = 18
number_of file_too_short = 19
number_of other_version = 20
number_of not_exact = 21
number_of bad_start = 22
number_of too_wide = 33

-- what a public call gives back: a refusal with its place, or values
pub data Answer (A : Type 0) : Type 0 where
  refused : Refusal → ℕ → Answer A
  given : A → Answer A

-- its number and its place: accepted answers have number 0 and place 0
abbrev pub answer_number : {A : Type 0} → Answer A → ℕ
answer_number (refused r p) = number_of r
answer_number (given a) = 0

abbrev pub answer_place : {A : Type 0} → Answer A → ℕ
answer_place (refused r p) = p
answer_place (given a) = 0

-- the answer where the test passes; else the refusal, at its place. A chain of these is weighed from the top down.
abbrev pub or_refuse : {A : Type 0} → Bool → Refusal → ℕ → Answer A → Answer A
or_refuse true r p answer = answer
or_refuse false r p answer = refused r p

-- lent memory afterwards: what was given stands at its front and the rest is as before; "No lent memory changes" where the call is refused
abbrev pub laid : {A : Type 0} → Answer A → List ℕ → List ℕ → List ℕ
laid (refused r p) ws entry = entry
laid (given a) ws entry = ws ++ drop (length ws) entry
