-- Rule 9 by computation: a table that keeps it, then for each clause one that breaks it. Assumes nothing.
use Rattle.std.specs.Prelude.{ℕ, ◌-◌, ◌^◌, ◌≡◌, refl, Bool, true, false, List, [], ◌∷◌, ◌++◌, map, replicate, set}
use Rattle.std.proofs.Math.Option.{none, some}
use Rattle.text.specs.Nom.{span}
use Rattle.text.specs.BasicTags.{PlaylistType, event, vod, other}
use Rattle.lengths.specs.Binary32.{seconds_bits}
use Rattle.tables.specs.Layout as layout
use Rattle.tables.specs.Table.{every, fits, has_flag}
use Rattle.assembly.specs.Assembly.{Head, head, empty_head}
use Rattle.records.specs.Examples.{full, bare, three}
use Rattle.rule9.specs.Rule9.{bits_agree, flags_keep, plain_keep, range_keeps, map_keeps, clip_keeps, tag_keeps, tags_up_to, runs_adjoin, keeps_rule}

-- a text of 100 bytes, for the clips `full` and `bare` and the tags `three` of the crate `records`
abbrev text : List ℕ
text = replicate 100 0

-- ---- what the rule takes
taken : keeps_rule text empty_head (full ++ bare) 2 three 3 ≡ true
unfolding keeps_rule fits every clip_keeps plain_keep seconds_bits flags_keep has_flag range_keeps map_keeps tag_keeps runs_adjoin tags_up_to
taken = refl

-- no clips, no tags; tables may be longer than their counts
empty : keeps_rule [] empty_head [] 0 three 0 ≡ true
unfolding keeps_rule fits every runs_adjoin tags_up_to
empty = refl

-- ---- "the counts fit"
counts : map (λ n. keeps_rule text empty_head bare n three 3) (2 ∷ (2 ^ 64 - 1) ∷ []) ≡ false ∷ false ∷ []
unfolding keeps_rule fits
counts = refl

tag_counts : map (λ m. keeps_rule text empty_head full 1 three m) (4 ∷ (2 ^ 64 - 1) ∷ []) ≡ false ∷ false ∷ []
unfolding keeps_rule fits
tag_counts = refl

-- ---- "spans, the head's too, have start <= end <= text length": the head's, reversed and past the text
abbrev typed : PlaylistType → Head
typed t = head none 0 0 0 (some t) false false false

heads : map (λ t. keeps_rule text (typed t) [] 0 [] 0) (event ∷ vod ∷ other (span 100 100) ∷ other (span 3 2) ∷ other (span 99 101) ∷ []) ≡ true ∷ true ∷ true ∷ false ∷ false ∷ []
unfolding keeps_rule fits every runs_adjoin tags_up_to
heads = refl

-- one clip and its two tags, with a word changed
abbrev changed : ℕ → ℕ → Bool
changed place word = keeps_rule text empty_head (set full place word) 1 three 2

unchanged : changed layout.bits 0x41100000 ≡ true
unfolding keeps_rule fits every clip_keeps plain_keep seconds_bits flags_keep has_flag range_keeps map_keeps tag_keeps runs_adjoin tags_up_to
unchanged = refl

reversed : changed layout.uri_start 21 ∷ changed layout.title_start 26 ∷ changed layout.map_uri_start 41 ∷ changed layout.map_list_start 46 ∷ [] ≡ false ∷ false ∷ false ∷ false ∷ []
unfolding keeps_rule fits every clip_keeps plain_keep seconds_bits flags_keep has_flag range_keeps map_keeps
reversed = refl

past_the_text : changed layout.uri_end 101 ∷ changed layout.title_end 101 ∷ changed layout.map_uri_end 101 ∷ changed layout.map_list_end 101 ∷ [] ≡ false ∷ false ∷ false ∷ false ∷ []
unfolding keeps_rule fits every clip_keeps plain_keep seconds_bits flags_keep has_flag range_keeps map_keeps
past_the_text = refl

-- an unknown tag's name and rest
abbrev changed_tag : ℕ → ℕ → Bool
changed_tag place word = keeps_rule text empty_head full 1 (set three place word) 2

tag_spans : changed_tag layout.name_start 56 ∷ changed_tag layout.rest_end 101 ∷ [] ≡ false ∷ false ∷ []
unfolding keeps_rule fits every clip_keeps plain_keep seconds_bits flags_keep has_flag range_keeps map_keeps tag_keeps
tag_spans = refl

-- ---- "word 2 below 10^18": one below it and 10^18, each with its own bits
abbrev lasting : ℕ → Bool
lasting ns = keeps_rule text empty_head (set (set full layout.length_ns ns) layout.bits 0x4E6E6B28) 1 three 2

lengths : map lasting (999999999999999999 ∷ 1000000000000000000 ∷ []) ≡ true ∷ false ∷ []
unfolding keeps_rule fits every clip_keeps plain_keep seconds_bits flags_keep has_flag range_keeps map_keeps tag_keeps runs_adjoin tags_up_to
lengths = refl

-- ---- "word 3 agrees with word 2"
wrong_bits : changed layout.bits 0x41100001 ≡ false
unfolding keeps_rule fits every clip_keeps plain_keep seconds_bits
wrong_bits = refl

-- that alone, of a clip of 9 s, of one whose bits are one too low, and of one that the table does not have: 0 s, and its bits are 0
bits_alone : map (bits_agree (full ++ set bare layout.bits 0x3DCCCCCC)) (0 ∷ 1 ∷ 2 ∷ []) ≡ true ∷ false ∷ true ∷ []
unfolding seconds_bits
bits_alone = refl

-- ---- "flags below 64, flag 2 only with 1, 16 only with 8, 32 only with 16"
flags : map flags_keep (0 ∷ 1 ∷ 3 ∷ 4 ∷ 8 ∷ 24 ∷ 56 ∷ 63 ∷ 2 ∷ 16 ∷ 32 ∷ 40 ∷ 48 ∷ 64 ∷ []) ≡ true ∷ true ∷ true ∷ true ∷ true ∷ true ∷ true ∷ true ∷ false ∷ false ∷ false ∷ false ∷ false ∷ false ∷ []
unfolding flags_keep has_flag
flags = refl

-- 62 is all but the range, 55 all but the map, 47 all but the map's range, 127 one flag more
flags_of_a_clip : map (changed layout.flags) (62 ∷ 55 ∷ 47 ∷ 127 ∷ []) ≡ false ∷ false ∷ false ∷ false ∷ []
unfolding keeps_rule fits every clip_keeps plain_keep seconds_bits flags_keep has_flag
flags_of_a_clip = refl

-- ---- "absent words zero": each word of range and map in a clip that has neither
abbrev filled : ℕ → Bool
filled place = clip_keeps text (set bare place 1) 0

absent_words : map filled (layout.range_length ∷ layout.range_offset ∷ layout.map_uri_end ∷ layout.map_range_length ∷ layout.map_range_offset ∷ layout.map_list_end ∷ []) ≡ false ∷ false ∷ false ∷ false ∷ false ∷ false ∷ []
unfolding clip_keeps plain_keep seconds_bits flags_keep has_flag range_keeps map_keeps
absent_words = refl

-- all but the offset of the range, 61, and all but that of the map's range, 31: with an offset's word, and with a zero
abbrev without : ℕ → ℕ → ℕ → Bool
without flags place word = keeps_rule text empty_head (set (set full layout.flags flags) place word) 1 three 2

absent_offsets : without 61 layout.range_offset 1 ∷ without 61 layout.range_offset 0 ∷ without 31 layout.map_range_offset 1 ∷ without 31 layout.map_range_offset 0 ∷ [] ≡ false ∷ true ∷ false ∷ true ∷ []
unfolding keeps_rule fits every clip_keeps plain_keep seconds_bits flags_keep has_flag range_keeps map_keeps tag_keeps runs_adjoin tags_up_to
absent_offsets = refl

-- ---- "unknown runs adjoin from 0 and use all tags": a gap, an overlap, a tag left over, one too few
abbrev runs : ℕ → ℕ → Bool
runs first m = keeps_rule text empty_head (full ++ set bare layout.first_tag first) 2 three m

adjoining : runs 2 3 ∷ runs 3 3 ∷ runs 1 3 ∷ runs 2 2 ∷ [] ≡ true ∷ false ∷ false ∷ false ∷ []
unfolding keeps_rule fits every clip_keeps plain_keep seconds_bits flags_keep has_flag range_keeps map_keeps tag_keeps runs_adjoin tags_up_to
adjoining = refl

left_over : keeps_rule text empty_head full 1 three 3 ≡ false
unfolding keeps_rule fits every clip_keeps plain_keep seconds_bits flags_keep has_flag range_keeps map_keeps tag_keeps runs_adjoin tags_up_to
left_over = refl

-- a second count that brings the sum to 2^64 is no 0
wraps : keeps_rule text empty_head (set full layout.tag_count (2 ^ 64 - 1) ++ set bare layout.first_tag (2 ^ 64 - 1)) 2 three 0 ≡ false
unfolding keeps_rule fits every clip_keeps plain_keep seconds_bits flags_keep has_flag range_keeps map_keeps tag_keeps runs_adjoin tags_up_to
wraps = refl
