-- What each answer of the code says, in the words of `Common`. Assumes nothing.
use Rattle.text.specs.Answers.{span_of}
use Rattle.lengths.specs.Answers.{extinf_of}
use Rattle.steps.specs.declared.common.Kind as kindᵈ
use Rattle.steps.specs.declared.common.Kind.TheVariants as kindᵛ
use Rattle.steps.specs.declared.common.Line.{Line}
use Rattle.steps.specs.declared.common.Line.TheVariants as lineᵛ
use Rattle.steps.specs.declared.common.LineEnd.{LineEnd}
use Rattle.steps.specs.declared.common.LineEnd.TheVariants as endᵛ
use Rattle.steps.specs.Inside.Common.{Kind, uri_kind, extinf_kind, other_kind, Common, takes_uri, takes_extinf, takes_other, CommonEnd, ends_uri, ends_extinf, ends_other}

abbrev pub kind_of : kindᵈ.Kind → Kind
kind_of kindᵛ.Uri = uri_kind
kind_of kindᵛ.Extinf = extinf_kind
kind_of kindᵛ.Other = other_kind

abbrev pub common_of : Line → Common
common_of (lineᵛ.Uri s n) = takes_uri (span_of s) n
common_of (lineᵛ.Extinf e n) = takes_extinf (extinf_of e) n
common_of lineᵛ.Other = takes_other

abbrev pub common_end_of : LineEnd → CommonEnd
common_end_of (endᵛ.Uri n) = ends_uri n
common_end_of (endᵛ.Extinf long n) = ends_extinf long n
common_end_of endᵛ.Other = ends_other
