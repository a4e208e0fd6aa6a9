-- Where each word of a record stands: 01's section "Clip record", and the rules' only place for these numbers. `src/layout.rt` has them for the code.
-- Assumes nothing.
use Rattle.std.specs.Prelude.{ℕ, ◌^◌}

-- ---- a clip's record in the clip table
abbrev pub clip_words : ℕ
clip_words = 17

-- 0, 1 URI start and end
abbrev pub uri_start : ℕ
uri_start = 0

abbrev pub uri_end : ℕ
uri_end = 1

-- 2 length in ns
abbrev pub length_ns : ℕ
length_ns = 2

-- 3 its binary32 bits
abbrev pub bits : ℕ
bits = 3

-- 4, 5 title
abbrev pub title_start : ℕ
title_start = 4

abbrev pub title_end : ℕ
title_end = 5

-- 6 flags
abbrev pub flags : ℕ
flags = 6

-- 7, 8 range length, offset
abbrev pub range_length : ℕ
range_length = 7

abbrev pub range_offset : ℕ
range_offset = 8

-- 9, 10 map URI
abbrev pub map_uri_start : ℕ
map_uri_start = 9

abbrev pub map_uri_end : ℕ
map_uri_end = 10

-- 11, 12 map range's length, offset
abbrev pub map_range_length : ℕ
map_range_length = 11

abbrev pub map_range_offset : ℕ
map_range_offset = 12

-- 13, 14 map list
abbrev pub map_list_start : ℕ
map_list_start = 13

abbrev pub map_list_end : ℕ
map_list_end = 14

-- 15 first unknown tag
abbrev pub first_tag : ℕ
first_tag = 15

-- 16 how many
abbrev pub tag_count : ℕ
tag_count = 16

-- ---- an unknown tag's record in the tag table: name start, end, rest start, end
abbrev pub tag_words : ℕ
tag_words = 4

abbrev pub name_start : ℕ
name_start = 0

abbrev pub name_end : ℕ
name_end = 1

abbrev pub rest_start : ℕ
rest_start = 2

abbrev pub rest_end : ℕ
rest_end = 3

-- ---- a clip's record in a table of starts (02, [2]): its start in ns within the turn, its start tick in a given turn
abbrev pub start_words : ℕ
start_words = 2

abbrev pub start_ns : ℕ
start_ns = 0

abbrev pub start_tick : ℕ
start_tick = 1

-- ---- a clip's record in a table of windows (02, [1]): what the call for one clip gives, 0 or the refusal's number, 1 or 0 for a range, start, end
abbrev pub window_words : ℕ
window_words = 4

abbrev pub window_number : ℕ
window_number = 0

abbrev pub window_present : ℕ
window_present = 1

abbrev pub window_start : ℕ
window_start = 2

abbrev pub window_end : ℕ
window_end = 3

-- ---- flags: 1 range, 2 range offset, 4 discontinuity, 8 map, 16 map range, 32 map offset
abbrev pub has_range : ℕ
has_range = 1

abbrev pub has_range_offset : ℕ
has_range_offset = 2

abbrev pub has_discontinuity : ℕ
has_discontinuity = 4

abbrev pub has_map : ℕ
has_map = 8

abbrev pub has_map_range : ℕ
has_map_range = 16

abbrev pub has_map_offset : ℕ
has_map_offset = 32

-- flags below 64
abbrev pub flag_limit : ℕ
flag_limit = 64

-- ---- the library's own limit of a text, in bytes: "text above 65,536 bytes" is refused
abbrev pub text_limit : ℕ
text_limit = 65536

-- ---- word 2 below 10^18
abbrev pub length_limit : ℕ
length_limit = 10 ^ 18

-- "ns is the digits times 10^9": ns in a second
abbrev pub second : ℕ
second = 10 ^ 9
