-- An answer is determined: no second one meets a contract, since from what an answer says (its view) there is a way back to it. Assumes nothing.
use Rattle.std.specs.Prelude.{ℕ, Result, Ok, Err, Option as Perhaps, None, Some, ⊤}
use mathlib.Core.Path.{◌≡◌, refl, sym, ◌∙◌, ap}
use mathlib.Core.Option.{Option, none, some}
use Rattle.text.specs.declared.Why as whyᵈ
use Rattle.text.specs.declared.Why.TheVariants as whyᵛ
use Rattle.text.specs.declared.Span as spanᵈ
use Rattle.text.specs.Why.{Why, other_text, no_digits, too_large, missing_byte, type_empty, name_empty, no_uri, uri_not_quoted, range_not_quoted, range_bad, lone_cr}
use Rattle.text.specs.Nom.{Res, fail, ok, Span, span}
use Rattle.text.specs.Answers.{why_of, span_of, perhaps, part_of, res_of, span_res, part_res, place_res}

module _ {A B : Type 0} (view : A → B) where
  -- two answers that say the same are the same
  abbrev pub Only : Type 0
  Only = (a b : A) → view a ≡ view b → a ≡ b

  pub only_by : (back : B → A) → ((a : A) → back (view a) ≡ a) → Only
  only_by back h a b e = sym (h a) ∙ ap back e ∙ h b

  -- of a contract `view r ≡ rule`
  pub no_second : Only → (rule : B) (a b : A) → view a ≡ rule → view b ≡ rule → a ≡ b
  no_second o rule a b e f = o a b (e ∙ sym f)

-- ---- reasons and parts
abbrev pub why_back : Why → whyᵈ.Why
why_back other_text = whyᵛ.OtherText
why_back no_digits = whyᵛ.NoDigits
why_back too_large = whyᵛ.TooLarge
why_back missing_byte = whyᵛ.MissingByte
why_back type_empty = whyᵛ.TypeEmpty
why_back name_empty = whyᵛ.NameEmpty
why_back no_uri = whyᵛ.NoUri
why_back uri_not_quoted = whyᵛ.UriNotQuoted
why_back range_not_quoted = whyᵛ.RangeNotQuoted
why_back range_bad = whyᵛ.RangeBad
why_back lone_cr = whyᵛ.LoneCr

pub why_back_lem : (w : whyᵈ.Why) → why_back (why_of w) ≡ w
why_back_lem whyᵛ.OtherText = refl
why_back_lem whyᵛ.NoDigits = refl
why_back_lem whyᵛ.TooLarge = refl
why_back_lem whyᵛ.MissingByte = refl
why_back_lem whyᵛ.TypeEmpty = refl
why_back_lem whyᵛ.NameEmpty = refl
why_back_lem whyᵛ.NoUri = refl
why_back_lem whyᵛ.UriNotQuoted = refl
why_back_lem whyᵛ.RangeNotQuoted = refl
why_back_lem whyᵛ.RangeBad = refl
why_back_lem whyᵛ.LoneCr = refl

pub why_only : Only why_of
why_only = only_by why_of why_back why_back_lem

abbrev pub span_back : Span → spanᵈ.Span
span_back (span s e) = record { start = s; end = e }

pub span_back_lem : (s : spanᵈ.Span) → span_back (span_of s) ≡ s
span_back_lem s = refl

pub span_only : Only span_of
span_only = only_by span_of span_back span_back_lem

-- ---- what may be missing, and a rule's answer: as determined as what they hold
module _ {A B : Type 0} (view : A → B) (back : B → A) (h : (a : A) → back (view a) ≡ a) where
  abbrev pub perhaps_back : Option B → Perhaps A
  perhaps_back none = None
  perhaps_back (some b) = Some (back b)

  pub perhaps_back_lem : (p : Perhaps A) → perhaps_back (perhaps view p) ≡ p
  perhaps_back_lem None = refl
  perhaps_back_lem (Some a) = ap Some (h a)

  pub perhaps_only : Only (perhaps view)
  perhaps_only = only_by (perhaps view) perhaps_back perhaps_back_lem

  abbrev res_back : Res B → Result (A × ℕ) whyᵈ.Why
  res_back (fail why) = Err (why_back why)
  res_back (ok b n) = Ok (back b, n)

  pub res_only : Only (res_of view)
  res_only = only_by (res_of view) res_back go
    where
      go : (r : Result (A × ℕ) whyᵈ.Why) → res_back (res_of view r) ≡ r
      go (Err why) = ap Err (why_back_lem why)
      go (Ok v) = ap (λ (a : A). Ok (a, v.1)) (h v.0)

abbrev pub part_back : Option Span → Perhaps spanᵈ.Span
part_back = perhaps_back span_of span_back span_back_lem

pub part_back_lem : (p : Perhaps spanᵈ.Span) → part_back (part_of p) ≡ p
part_back_lem = perhaps_back_lem span_of span_back span_back_lem

pub part_only : Only part_of
part_only = perhaps_only span_of span_back span_back_lem

pub span_res_only : Only span_res
span_res_only = res_only span_of span_back span_back_lem

pub part_res_only : Only part_res
part_res_only = res_only part_of part_back part_back_lem

abbrev unit_back : Unit {0} → ⊤
unit_back u = tt

pub place_res_only : Only place_res
place_res_only = res_only (λ (u : ⊤). tt) unit_back (λ u. refl)
