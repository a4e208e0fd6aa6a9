-- The window's answers by computation over its rule: the readings' smallest lists, both sides of each limit, and each refusal before the next.
-- "a 5@7" is a clip with URI `a`, range length 5, offset 7; "a 5" has no offset. Assumes nothing.
use Rattle.std.specs.Prelude.{◌≡◌, refl, List, [], ◌∷◌, ◌++◌, map, ℕ, ◌+◌, ◌-◌, ◌^◌, replicate, set}
use Rattle.text.specs.Nom.{bytes}
use Rattle.text.specs.Spans.{same_all}
use Rattle.tables.specs.Layout as layout
use Rattle.tables.specs.Table.{every, fits, has_flag}
use Rattle.tables.specs.Refusal.{Answer, given, refused, text_too_long, broken_table, no_such_clip, window_too_far, no_range_before}
use Rattle.window.specs.Window.{Window, none, range, same_resource, range_start, window_of, clip_keeps, keeps_rule, over_clips, window}

-- the URI `a` stands at 0 and at 2, `b` at 1, `ab` at 0, and nothing at 3
abbrev pub text : List ℕ
text = bytes "aba"

-- a record of zeros but for its URI, flags, range length and range offset
abbrev pub clip_of : ℕ → ℕ → ℕ → ℕ → ℕ → List ℕ
clip_of start end flags n o = set (set (set (set (set (replicate layout.clip_words 0) layout.uri_start start) layout.uri_end end) layout.flags flags) layout.range_length n) layout.range_offset o

abbrev pub a : ℕ → List ℕ
a n = clip_of 0 1 layout.has_range n 0

-- the same URI at another place
abbrev a' : ℕ → List ℕ
a' n = clip_of 2 3 layout.has_range n 0

abbrev pub b : ℕ → List ℕ
b n = clip_of 1 2 layout.has_range n 0

abbrev ab : ℕ → List ℕ
ab n = clip_of 0 2 layout.has_range n 0

-- with an offset, and without a range
abbrev pub a_from : ℕ → ℕ → List ℕ
a_from n o = clip_of 0 1 (layout.has_range + layout.has_range_offset) n o

abbrev pub a_whole : List ℕ
a_whole = clip_of 0 1 0 0 0

-- the windows of the first clips
abbrev windows2 : List ℕ → List (Answer Window)
windows2 t = map (window text t 2) (0 ∷ 1 ∷ [])

abbrev windows3 : List ℕ → List (Answer Window)
windows3 t = map (window text t 3) (0 ∷ 1 ∷ 2 ∷ [])

-- ---- one clip
-- without a range, whatever its words say; an offset alone is no range
no_range : map (λ flags. window text (clip_of 0 1 flags 10 5) 1 0) (0 ∷ layout.has_range_offset ∷ layout.has_discontinuity ∷ []) ≡ given none ∷ given none ∷ given none ∷ []
unfolding window over_clips keeps_rule clip_keeps every window_of range_start fits has_flag
no_range = refl

-- from the offset; without one "a first clip with range 5 and no offset is 16"
first_clip : map (λ flags. window text (clip_of 0 1 flags 5 7) 1 0) ((layout.has_range + layout.has_range_offset) ∷ (layout.flag_limit - 1) ∷ layout.has_range ∷ []) ≡ given (range 7 12) ∷ given (range 7 12) ∷ refused no_range_before 0 ∷ []
unfolding window over_clips keeps_rule clip_keeps every window_of range_start fits has_flag
first_clip = refl

-- 15: an end of 2^64 - 1, and of 2^64
ends : map (λ o. window text (a_from 10 o) 1 0) ((2 ^ 64 - 11) ∷ (2 ^ 64 - 10) ∷ []) ≡ given (range (2 ^ 64 - 11) (2 ^ 64 - 1)) ∷ refused window_too_far 0 ∷ []
unfolding window over_clips keeps_rule clip_keeps every window_of range_start fits has_flag
ends = refl

-- ---- the chain: a 5@7; a 1; a 0
chain : windows3 (a_from 5 7 ++ (a' 1 ++ a 0)) ≡ given (range 7 12) ∷ given (range 12 13) ∷ given (range 13 13) ∷ []
unfolding window over_clips keeps_rule clip_keeps every window_of range_start same_resource same_all fits has_flag
chain = refl

-- its own offset looks at nothing before it: b 1; a 5@7
own_offset : windows2 (b 1 ++ a_from 5 7) ≡ refused no_range_before 0 ∷ given (range 7 12) ∷ []
unfolding window over_clips keeps_rule clip_keeps every window_of range_start same_resource same_all fits has_flag
own_offset = refl

-- "nothing is skipped": a 5@7; a (no range); a 1
no_range_between : windows3 (a_from 5 7 ++ (a_whole ++ a 1)) ≡ given (range 7 12) ∷ given none ∷ refused no_range_before 0 ∷ []
unfolding window over_clips keeps_rule clip_keeps every window_of range_start same_resource same_all fits has_flag
no_range_between = refl

-- another resource, longer or not: a 5@7; b 1, and a 5@7; ab 1; and behind it a 1 is refused "back along the chain"
other_resource : windows3 (a_from 5 7 ++ (b 1 ++ a 1)) ++ windows2 (a_from 5 7 ++ ab 1) ≡ given (range 7 12) ∷ refused no_range_before 0 ∷ refused no_range_before 0 ∷ given (range 7 12) ∷ refused no_range_before 0 ∷ []
unfolding window over_clips keeps_rule clip_keeps every window_of range_start same_resource same_all fits has_flag
other_resource = refl

-- the chain of one resource ends where another comes between, though that one has an offset: a 5@7; b 1@0; a 1
between : windows3 (a_from 5 7 ++ (clip_of 1 2 (layout.has_range + layout.has_range_offset) 1 0 ++ a 1)) ≡ given (range 7 12) ∷ given (range 0 1) ∷ refused no_range_before 0 ∷ []
unfolding window over_clips keeps_rule clip_keeps every window_of range_start same_resource same_all fits has_flag
between = refl

-- "two empty URIs are equal", wherever they stand; "a discontinuity does not break a chain"
empty_uris : windows2 (clip_of 0 0 (layout.has_range + layout.has_range_offset) 5 7 ++ clip_of 3 3 (layout.has_range + layout.has_discontinuity) 1 0) ≡ given (range 7 12) ∷ given (range 12 13) ∷ []
unfolding window over_clips keeps_rule clip_keeps every window_of range_start same_resource same_all fits has_flag
empty_uris = refl

-- ---- "16 before 15, by exact sums"
-- without a beginning: a 2^64-1; a 2^64-1
no_beginning : windows2 (a (2 ^ 64 - 1) ++ a' (2 ^ 64 - 1)) ≡ refused no_range_before 0 ∷ refused no_range_before 0 ∷ []
unfolding window over_clips keeps_rule clip_keeps every window_of range_start same_resource same_all fits has_flag
no_beginning = refl

-- "With a beginning, an end above 2^64 - 1 anywhere on the chain is 15, even if the asked clip has length 0": a 1@2^64-2; a 1; a 0
too_far : windows3 (a_from 1 (2 ^ 64 - 2) ++ (a 1 ++ a 0)) ≡ given (range (2 ^ 64 - 2) (2 ^ 64 - 1)) ∷ refused window_too_far 0 ∷ refused window_too_far 0 ∷ []
unfolding window over_clips keeps_rule clip_keeps every window_of range_start same_resource same_all fits has_flag
too_far = refl

-- "an end of exactly 2^64 - 1 is taken": a 1@2^64-2; a 0
at_the_end : windows2 (a_from 1 (2 ^ 64 - 2) ++ a 0) ≡ given (range (2 ^ 64 - 2) (2 ^ 64 - 1)) ∷ given (range (2 ^ 64 - 1) (2 ^ 64 - 1)) ∷ []
unfolding window over_clips keeps_rule clip_keeps every window_of range_start same_resource same_all fits has_flag
at_the_end = refl

-- ---- the refusals' order
-- 1 before 9: a text of 65,537 bytes and of 65,536, over a count that does not fit
text_first : map (λ n. window (replicate n 97) [] 1 0) (65537 ∷ 65536 ∷ []) ≡ refused text_too_long 0 ∷ refused broken_table 0 ∷ []
unfolding window over_clips keeps_rule fits
text_first = refl

-- 9: the count; then "every clip's flags", "those behind the asked clip too", "and before 14"
rule_9 : window text (a 1) 2 0 ∷ window text (a 1) (2 ^ 64 - 1) 0 ∷ map (window text (a_from 5 7 ++ clip_of 0 1 layout.flag_limit 1 0) 2) (0 ∷ 1 ∷ 2 ∷ [])
    ≡ refused broken_table 0 ∷ refused broken_table 0 ∷ refused broken_table 0 ∷ refused broken_table 0 ∷ refused broken_table 0 ∷ []
unfolding window over_clips keeps_rule clip_keeps every fits
rule_9 = refl

-- and URI span: within the text, one past it, reversed. A clip behind the count is not judged.
spans : map (λ t. window text (a_from 5 7 ++ t) 2 0) (clip_of 0 3 0 0 0 ∷ clip_of 3 3 0 0 0 ∷ clip_of 0 4 0 0 0 ∷ clip_of 2 1 0 0 0 ∷ clip_of 4 4 0 0 0 ∷ [])
    ++ (window text (a_from 5 7 ++ clip_of 4 4 0 0 0) 1 0 ∷ [])
    ≡ given (range 7 12) ∷ given (range 7 12) ∷ refused broken_table 0 ∷ refused broken_table 0 ∷ refused broken_table 0 ∷ given (range 7 12) ∷ []
unfolding window over_clips keeps_rule clip_keeps every window_of range_start same_resource same_all fits has_flag
spans = refl

-- 14, before 16 and 15: the clip after the last
no_clip : window text (a (2 ^ 64 - 1)) 1 1 ≡ refused no_such_clip 0
unfolding window over_clips keeps_rule clip_keeps every fits
no_clip = refl
