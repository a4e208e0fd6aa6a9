-- What each answer of the code says, in the words of the rules. Assumes nothing.
use Rattle.std.specs.Prelude.{ℕ, Result, Ok, Err, Option as Perhaps, None, Some, ⊤}
use Rattle.std.proofs.Math.Option.{Option, none, some}
use Rattle.text.specs.declared.Why as whyᵈ
use Rattle.text.specs.declared.Why.TheVariants as whyᵛ
use Rattle.text.specs.declared.Span as spanᵈ
use Rattle.text.specs.Why.{Why, other_text, no_digits, too_large, missing_byte, type_empty, name_empty, no_uri, uri_not_quoted, range_not_quoted, range_bad, lone_cr}
use Rattle.text.specs.Nom.{Res, fail, ok, Span, span}

abbrev pub why_of : whyᵈ.Why → Why
why_of whyᵛ.OtherText = other_text
why_of whyᵛ.NoDigits = no_digits
why_of whyᵛ.TooLarge = too_large
why_of whyᵛ.MissingByte = missing_byte
why_of whyᵛ.TypeEmpty = type_empty
why_of whyᵛ.NameEmpty = name_empty
why_of whyᵛ.NoUri = no_uri
why_of whyᵛ.UriNotQuoted = uri_not_quoted
why_of whyᵛ.RangeNotQuoted = range_not_quoted
why_of whyᵛ.RangeBad = range_bad
why_of whyᵛ.LoneCr = lone_cr

abbrev pub span_of : spanᵈ.Span → Span
span_of s = span s.start s.end

-- a value that may be missing, by what it says
module _ {A B : Type 0} where
  abbrev pub perhaps : (A → B) → Perhaps A → Option B
  perhaps f None = none
  perhaps f (Some x) = some (f x)

abbrev pub part_of : Perhaps spanᵈ.Span → Option Span
part_of = perhaps span_of

-- IResult, by what its value says
module _ {A B : Type 0} where
  abbrev pub res_of : (A → B) → Result (A × ℕ) whyᵈ.Why → Res B
  res_of f (Err why) = fail (why_of why)
  res_of f (Ok v) = ok (f v.0) v.1

abbrev pub span_res : Result (spanᵈ.Span × ℕ) whyᵈ.Why → Res Span
span_res = res_of span_of

abbrev pub part_res : Result (Perhaps spanᵈ.Span × ℕ) whyᵈ.Why → Res (Option Span)
part_res = res_of part_of

abbrev pub place_res : Result (⊤ × ℕ) whyᵈ.Why → Res (Unit {0})
place_res = res_of (λ _. tt)
