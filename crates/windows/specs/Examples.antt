-- A list of six clips by computation over the rules: the cursor's steps, and the table. Assumes nothing.
use Rattle.std.specs.Prelude.{◌≡◌, refl, List, [], ◌∷◌, ◌++◌, map, ℕ, ◌-◌, ◌^◌, replicate}
use Rattle.text.specs.Spans.{same_all}
use Rattle.tables.specs.Layout as layout
use Rattle.tables.specs.Table.{every, records, fits, has_flag}
use Rattle.tables.specs.Refusal.{given, refused, laid, text_too_long, broken_table, output_short, window_too_far, no_range_before}
use Rattle.window.specs.Window.{none, range, same_resource, range_start, window_of, clip_keeps, keeps_rule, over_clips}
use Rattle.window.specs.After.{window_after}
use Rattle.window.specs.Examples.{text, clip_of, a, b, a_from, a_whole}
use Rattle.windows.specs.Windows.{cursor, row, done, clip, windows, next}
use Rattle.windows.specs.Table.{window_records, all_windows}

-- a 5@7; a 1; a (no range); a 1; b 1@2^64-2, which ends at 2^64-1; b 1
abbrev reel : List ℕ
reel = a_from 5 7 ++ (a 1 ++ (a_whole ++ (a 1 ++ (clip_of 1 2 3 1 (2 ^ 64 - 2) ++ b 1))))

-- ---- the cursor: each step gives the window, and hands it on
pass_opens : windows text reel 6 ≡ given (cursor 6 0 (given none))
unfolding windows over_clips keeps_rule clip_keeps every fits
pass_opens = refl

pass_rows : map (next text reel) (cursor 6 0 (given none) ∷ cursor 6 1 (given (range 7 12)) ∷ cursor 6 2 (given (range 12 13)) ∷ cursor 6 3 (given none) ∷ cursor 6 5 (given (range (2 ^ 64 - 2) (2 ^ 64 - 1))) ∷ cursor 6 6 (refused window_too_far 0) ∷ [])
    ≡ given (clip (row 0 (given (range 7 12))) (cursor 6 1 (given (range 7 12))))
    ∷ given (clip (row 1 (given (range 12 13))) (cursor 6 2 (given (range 12 13))))
    ∷ given (clip (row 2 (given none)) (cursor 6 3 (given none)))
    ∷ given (clip (row 3 (refused no_range_before 0)) (cursor 6 4 (refused no_range_before 0)))
    ∷ given (clip (row 5 (refused window_too_far 0)) (cursor 6 6 (refused window_too_far 0)))
    ∷ given done ∷ []
unfolding next clip_keeps window_after same_resource same_all has_flag
pass_rows = refl

-- other words than those that it was opened on: flags of 64
pass_9 : next text (clip_of 0 1 layout.flag_limit 0 0) (cursor 1 0 (given none)) ≡ refused broken_table 0
unfolding next clip_keeps
pass_9 = refl

-- ---- the table: 0, 1, start, end; zeros without a range; or the refusal's number
reel_records : window_records text reel 6
    ≡ 0 ∷ 1 ∷ 7 ∷ 12
    ∷ 0 ∷ 1 ∷ 12 ∷ 13
    ∷ 0 ∷ 0 ∷ 0 ∷ 0
    ∷ 16 ∷ 0 ∷ 0 ∷ 0
    ∷ 0 ∷ 1 ∷ (2 ^ 64 - 2) ∷ (2 ^ 64 - 1)
    ∷ 15 ∷ 0 ∷ 0 ∷ 0
    ∷ []
unfolding records window_of range_start same_resource same_all has_flag
reel_records = refl

-- four words are enough for a clip, three are not, and a fifth stays as it was
abbrev after : List ℕ → List ℕ
after out = laid (all_windows text (a_from 5 7) 1 out) (window_records text (a_from 5 7) 1) out

tables : map after (replicate 4 9 ∷ replicate 3 9 ∷ replicate 5 9 ∷ []) ≡ (0 ∷ 1 ∷ 7 ∷ 12 ∷ []) ∷ replicate 3 9 ∷ (0 ∷ 1 ∷ 7 ∷ 12 ∷ 9 ∷ []) ∷ []
unfolding all_windows records over_clips keeps_rule clip_keeps every fits window_of range_start has_flag
tables = refl

-- no clips need no words
no_clips : all_windows [] [] 0 [] ≡ given 0
unfolding all_windows over_clips keeps_rule every fits
no_clips = refl

-- 1, 9, 10 in that order
in_order : all_windows (replicate 65537 97) [] 1 [] ∷ all_windows text [] 1 [] ∷ all_windows text (a_from 5 7) 1 [] ∷ [] ≡ refused text_too_long 0 ∷ refused broken_table 0 ∷ refused output_short 0 ∷ []
unfolding all_windows over_clips keeps_rule clip_keeps every fits
in_order = refl
