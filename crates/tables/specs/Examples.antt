-- Words, counts, a store, flags, places and numbers by computation over the rules. Assumes nothing.
use Rattle.std.specs.Prelude.{◌≡◌, refl, Bool, true, false, List, [], ◌∷◌, map, ℕ, ◌-◌, ◌^◌, replicate}
use Rattle.tables.specs.Layout as layout
use Rattle.tables.specs.Refusal.{text_too_long, not_utf8, no_header, is_master, left_out_tag, too_many_digits, clip_table_short, tag_table_short, broken_table, output_short, total_too_long, bad_rate, turn_too_late, no_such_clip, window_too_far, no_range_before, nothing_plays, tick_too_late, file_too_short, other_version, not_exact, bad_start, too_wide, number_of, given, answer_number, or_refuse}
use Rattle.tables.specs.Table.{clips_fit, tags_fit, fits, tag_word, stored, tag_stored, has_flag}

-- one record's words hold one record, none hold none, and a count of 2^64 - 1 is no more than any other
one_clip : map (clips_fit (replicate layout.clip_words 0)) (0 ∷ 1 ∷ 2 ∷ (2 ^ 64 - 1) ∷ []) ≡ true ∷ true ∷ false ∷ false ∷ []
unfolding fits
one_clip = refl

no_words : map (tags_fit []) (0 ∷ 1 ∷ []) ≡ true ∷ false ∷ []
unfolding fits
no_words = refl

-- the second of two tags, and one that is not there
tags : map (λ tag. tag_word (1 ∷ 2 ∷ 3 ∷ 4 ∷ 5 ∷ 6 ∷ 7 ∷ 8 ∷ []) tag layout.rest_end) (0 ∷ 1 ∷ 2 ∷ []) ≡ 4 ∷ 8 ∷ 0 ∷ []
tags = refl

-- stored as the second of two tags, and as a third, for which there is no room
stores : map (λ tag. tag_stored (1 ∷ 2 ∷ 3 ∷ 4 ∷ 5 ∷ 6 ∷ 7 ∷ 8 ∷ 9 ∷ []) tag (0 ∷ 0 ∷ 0 ∷ 0 ∷ [])) (1 ∷ 2 ∷ []) ≡ (1 ∷ 2 ∷ 3 ∷ 4 ∷ 0 ∷ 0 ∷ 0 ∷ 0 ∷ 9 ∷ []) ∷ (1 ∷ 2 ∷ 3 ∷ 4 ∷ 5 ∷ 6 ∷ 7 ∷ 8 ∷ 9 ∷ []) ∷ []
unfolding stored fits
stores = refl

-- "flags (1 range, 2 range offset, 4 discontinuity, 8 map, 16 map range, 32 map offset)": each alone
abbrev flags_in : ℕ → List Bool
flags_in word = map (has_flag word) (layout.has_range ∷ layout.has_range_offset ∷ layout.has_discontinuity ∷ layout.has_map ∷ layout.has_map_range ∷ layout.has_map_offset ∷ [])

each_flag : map flags_in (1 ∷ 2 ∷ 4 ∷ 8 ∷ 16 ∷ 32 ∷ [])
    ≡ (true ∷ false ∷ false ∷ false ∷ false ∷ false ∷ [])
    ∷ (false ∷ true ∷ false ∷ false ∷ false ∷ false ∷ [])
    ∷ (false ∷ false ∷ true ∷ false ∷ false ∷ false ∷ [])
    ∷ (false ∷ false ∷ false ∷ true ∷ false ∷ false ∷ [])
    ∷ (false ∷ false ∷ false ∷ false ∷ true ∷ false ∷ [])
    ∷ (false ∷ false ∷ false ∷ false ∷ false ∷ true ∷ [])
    ∷ []
unfolding has_flag
each_flag = refl

-- 11 is 1 + 2 + 8: a range with its offset, and a map without a range
flags : flags_in 11 ≡ true ∷ true ∷ false ∷ true ∷ false ∷ false ∷ []
unfolding has_flag
flags = refl

-- "0, 1 URI start and end; 2 length in ns; 3 its binary32 bits; 4, 5 title; 6 flags; 7, 8 range length, offset; 9, 10 map URI; 11, 12 map range's length,
-- offset; 13, 14 map list; 15 first unknown tag; 16 how many"; "Unknown tag: name start, end, rest start, end"
places :
    layout.uri_start
    ∷ layout.uri_end
    ∷ layout.length_ns
    ∷ layout.bits
    ∷ layout.title_start
    ∷ layout.title_end
    ∷ layout.flags
    ∷ layout.range_length
    ∷ layout.range_offset
    ∷ layout.map_uri_start
    ∷ layout.map_uri_end
    ∷ layout.map_range_length
    ∷ layout.map_range_offset
    ∷ layout.map_list_start
    ∷ layout.map_list_end
    ∷ layout.first_tag
    ∷ layout.tag_count
    ∷ layout.clip_words
    ∷ []
    ≡ 0 ∷ 1 ∷ 2 ∷ 3 ∷ 4 ∷ 5 ∷ 6 ∷ 7 ∷ 8 ∷ 9 ∷ 10 ∷ 11 ∷ 12 ∷ 13 ∷ 14 ∷ 15 ∷ 16 ∷ 17 ∷ []
places = refl

tag_places : layout.name_start ∷ layout.name_end ∷ layout.rest_start ∷ layout.rest_end ∷ layout.tag_words ∷ [] ≡ 0 ∷ 1 ∷ 2 ∷ 3 ∷ 4 ∷ []
tag_places = refl

-- a table of starts: its start in ns, then its tick
start_places : layout.start_ns ∷ layout.start_tick ∷ layout.start_words ∷ [] ≡ 0 ∷ 1 ∷ 2 ∷ []
start_places = refl

-- a table of windows: number, 1 or 0 for a range, start, end
window_places : layout.window_number ∷ layout.window_present ∷ layout.window_start ∷ layout.window_end ∷ layout.window_words ∷ [] ≡ 0 ∷ 1 ∷ 2 ∷ 3 ∷ 4 ∷ []
window_places = refl

-- 01, "Numbers given back", row by row, then 02's: 16 of [1], 17 and 18 of [2], 19 to 22 and 33 of [3]
refusals :
    map number_of
    (text_too_long
    ∷ not_utf8
    ∷ no_header
    ∷ is_master
    ∷ left_out_tag
    ∷ too_many_digits
    ∷ clip_table_short
    ∷ tag_table_short
    ∷ broken_table
    ∷ output_short
    ∷ total_too_long
    ∷ bad_rate
    ∷ turn_too_late
    ∷ no_such_clip
    ∷ window_too_far
    ∷ no_range_before
    ∷ nothing_plays
    ∷ tick_too_late
    ∷ file_too_short
    ∷ other_version
    ∷ not_exact
    ∷ bad_start
    ∷ too_wide
    ∷ [])
    ≡ 1 ∷ 2 ∷ 3 ∷ 4 ∷ 5 ∷ 6 ∷ 7 ∷ 8 ∷ 9 ∷ 10 ∷ 11 ∷ 12 ∷ 13 ∷ 14 ∷ 15 ∷ 16 ∷ 17 ∷ 18 ∷ 19 ∷ 20 ∷ 21 ∷ 22 ∷ 33 ∷ []
refusals = refl

-- the number of a refusal and of an accepted answer
numbers : map (λ passes. answer_number {A = ℕ} (or_refuse passes no_such_clip 0 (given 7))) (false ∷ true ∷ []) ≡ 14 ∷ 0 ∷ []
numbers = refl
