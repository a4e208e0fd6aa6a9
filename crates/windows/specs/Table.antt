-- The windows of all clips into a lent table (02, [1]): four words a clip, which are what the call for that clip answers. Assumes nothing.
use Rattle.std.specs.Prelude.{List, [], ◌∷◌, ℕ, Result}
use Rattle.tables.specs.Table.{records, windows_fit}
use Rattle.tables.specs.declared.Refusal as refusalᵈ
use Rattle.tables.specs.Answers.{LaidAs}
use Rattle.tables.specs.Refusal.{Answer, refused, given, number_of, or_refuse, output_short}
use Rattle.window.specs.Window.{Window, none, range, window_of, over_clips}

-- "1 or 0 for a range, start, end", behind the number
abbrev pub window_record : Answer Window → List ℕ
window_record (refused r p) = number_of r ∷ 0 ∷ 0 ∷ 0 ∷ []
window_record (given none) = 0 ∷ 0 ∷ 0 ∷ 0 ∷ []
window_record (given (range start end)) = 0 ∷ 1 ∷ start ∷ end ∷ []

-- the words of clip k
abbrev pub record_of : List ℕ → List ℕ → ℕ → List ℕ
record_of text t k = window_record (window_of text t k)

-- and those of the first k, in their order
abbrev pub window_records : List ℕ → List ℕ → ℕ → List ℕ
window_records text t k = records (record_of text t) k

-- 1, 9; then 10, where the table is too short; else how many clips there are
unfoldable pub all_windows : List ℕ → List ℕ → ℕ → List ℕ → Answer ℕ
all_windows text t n out =
    over_clips text t n
    (or_refuse (windows_fit out n) output_short 0
    (given n))

-- all that the call says: its answer, and each word of the table after it
abbrev pub WindowsAs : List ℕ → List ℕ → ℕ → List ℕ → List ℕ → Result ℕ refusalᵈ.Refusal → Type 0
WindowsAs text t n out₀ out r = LaidAs (all_windows text t n out₀) (window_records text t n) out₀ out r
