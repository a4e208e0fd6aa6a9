-- Spans of a text: when one lies within it, the bytes that it shows, and whether two texts have the same bytes. Assumes nothing.
use Rattle.std.specs.Prelude.{ℕ, ◌-◌, Bool, true, false, ◌&&◌, List, [], ◌∷◌, leb, eqb, length, take, drop}
use Rattle.std.proofs.Math.Option.{Option, none, some}
use Rattle.text.specs.Nom.{Span, span}

-- "spans have start <= end <= text length"
abbrev pub span_fits : List ℕ → ℕ → ℕ → Bool
span_fits text start end = leb start end && leb end (length text)

abbrev pub span_in : List ℕ → Span → Bool
span_in text (span a b) = span_fits text a b

abbrev pub part_in : List ℕ → Option Span → Bool
part_in text none = true
part_in text (some s) = span_in text s

-- "spans by the bytes they show"
abbrev pub shown : List ℕ → Span → List ℕ
shown text (span a b) = take (b - a) (drop a text)

abbrev pub shown_part : List ℕ → Option Span → Option (List ℕ)
shown_part text none = none
shown_part text (some s) = some (shown text s)

-- the same entries, one by one
unfoldable pub same_all : {A : Type 0} → (A → A → Bool) → List A → List A → Bool
same_all same [] [] = true
same_all same [] (b ∷ ys) = false
same_all same (a ∷ xs) [] = false
same_all same (a ∷ xs) (b ∷ ys) = same a b && same_all same xs ys

abbrev pub same_bytes : List ℕ → List ℕ → Bool
same_bytes a b = same_all eqb a b
