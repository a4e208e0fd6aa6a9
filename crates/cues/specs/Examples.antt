-- 01's own file as text, and files that are refused, by computation over the rules. Assumes nothing.
use Rattle.std.specs.Prelude.{ℕ, ◌≡◌, refl, List, [], ◌∷◌, ◌++◌, map, replicate, set}
use Rattle.text.specs.Nom.{bytes}
use Rattle.digits.specs.Digits.{digits_by, number_text}
use Rattle.tables.specs.Table.{every}
use Rattle.tables.specs.Refusal.{refused, given, file_too_short, bad_start}
use Rattle.cue_file.specs.Format.{value_at}
use Rattle.cue_file.specs.Read.{lengths_in, fits_exactly, start_keeps, judged}
use Rattle.printing.specs.Lines.{field}
use Rattle.cues.specs.Shown.{cue_line, cue_lines, shown_file}

abbrev file : List ℕ
file =
    0 ∷ 0 ∷ 0 ∷ 0 ∷ 0 ∷ 0 ∷ 0 ∷ 0 ∷ 0 ∷ 4
    ∷ 0 ∷ 0 ∷ 0 ∷ 9 ∷ 0 ∷ 137 ∷ 84 ∷ 64 ∷ 0 ∷ 4
    ∷ 0 ∷ 0 ∷ 0 ∷ 9 ∷ 0 ∷ 198 ∷ 93 ∷ 64 ∷ 0 ∷ 4
    ∷ bytes "a.tsb.tsc.ts"
    ++ (0 ∷ 0 ∷ 0 ∷ 0 ∷ 0 ∷ 0 ∷ 0 ∷ 30 ∷ 0 ∷ 3 ∷ 0 ∷ 1 ∷ [])

-- as it is, without clips, cut short, with a first start of 1 ns
texts : map shown_file (file ∷ (replicate 11 0 ++ 1 ∷ []) ∷ replicate 11 0 ∷ set file 7 1 ∷ [])
    ≡ given (bytes "clip\tstart\turi\n0\t0\ta.ts\n1\t9009000000\tb.ts\n2\t9013000000\tc.ts\n")
    ∷ given (bytes "clip\tstart\turi\n")
    ∷ refused file_too_short 0
    ∷ refused bad_start 0
    ∷ []
unfolding shown_file judged fits_exactly lengths_in start_keeps every value_at cue_lines cue_line field number_text digits_by
texts = refl
