-- No second answer meets a contract: from what an answer says there is a way back to it, as in text's `Only`. Assumes nothing.
use mathlib.Core.Path.{◌≡◌, refl, ap}
use Rattle.text.proofs.Only.{Only, only_by, span_back}
use Rattle.lengths.specs.declared.duration.Extinf as extinfᵈ
use Rattle.lengths.proofs.Only.{extinf_back, extinf_back_lem}
use Rattle.steps.specs.declared.common.Kind as kindᵈ
use Rattle.steps.specs.declared.common.Kind.TheVariants as kindᵛ
use Rattle.steps.specs.declared.common.Line.{Line}
use Rattle.steps.specs.declared.common.Line.TheVariants as lineᵛ
use Rattle.steps.specs.declared.common.LineEnd.{LineEnd}
use Rattle.steps.specs.declared.common.LineEnd.TheVariants as endᵛ
use Rattle.steps.specs.Inside.Common.{Kind, uri_kind, extinf_kind, other_kind, Common, takes_uri, takes_extinf, takes_other, CommonEnd, ends_uri, ends_extinf, ends_other}
use Rattle.steps.specs.Inside.Answers.{kind_of, common_of, common_end_of}

abbrev kind_back : Kind → kindᵈ.Kind
kind_back uri_kind = kindᵛ.Uri
kind_back extinf_kind = kindᵛ.Extinf
kind_back other_kind = kindᵛ.Other

kind_back_lem : (k : kindᵈ.Kind) → kind_back (kind_of k) ≡ k
kind_back_lem kindᵛ.Uri = refl
kind_back_lem kindᵛ.Extinf = refl
kind_back_lem kindᵛ.Other = refl

pub kind_only : Only kind_of
kind_only = only_by kind_of kind_back kind_back_lem

abbrev common_back : Common → Line
common_back (takes_uri s n) = lineᵛ.Uri (span_back s) n
common_back (takes_extinf e n) = lineᵛ.Extinf (extinf_back e) n
common_back takes_other = lineᵛ.Other

common_back_lem : (l : Line) → common_back (common_of l) ≡ l
common_back_lem (lineᵛ.Uri s n) = refl
common_back_lem (lineᵛ.Extinf e n) = ap (λ (x : extinfᵈ.Extinf). lineᵛ.Extinf x n) (extinf_back_lem e)
common_back_lem lineᵛ.Other = refl

pub common_only : Only common_of
common_only = only_by common_of common_back common_back_lem

abbrev common_end_back : CommonEnd → LineEnd
common_end_back (ends_uri n) = endᵛ.Uri n
common_end_back (ends_extinf long n) = endᵛ.Extinf long n
common_end_back ends_other = endᵛ.Other

common_end_back_lem : (l : LineEnd) → common_end_back (common_end_of l) ≡ l
common_end_back_lem (endᵛ.Uri n) = refl
common_end_back_lem (endᵛ.Extinf long n) = refl
common_end_back_lem endᵛ.Other = refl

pub common_end_only : Only common_end_of
common_end_only = only_by common_end_of common_end_back common_end_back_lem
