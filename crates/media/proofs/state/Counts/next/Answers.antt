-- `Counts::next` meets its contract: each arm by what the match tells of the tag, a URI by what `after_uri` ensures. Any other tag leaves the counts. The
-- sums fit as required. Assumes nothing.
use mathlib.Core.Path.{◌≡◌, refl}
use Rattle.text.specs.Answers.{span_of}
use Rattle.tags.specs.Answers.{tag_of}
use Rattle.text.specs.declared.Span.{Span}
use Rattle.leaves.specs.declared.basic_tags.ExtTag.{ExtTag}
use Rattle.tags.specs.declared.Tag as tagᵈ
use Rattle.tags.specs.declared.Tag.TheVariants as tagᵛ
use Rattle.assembly.specs.Assembly.{Counts, counts_after}
use Rattle.media.proofs.state.Counts.next.Goals as goal

leaves : (n : Counts) (t : tagᵈ.Tag) → ((x : ExtTag) → t ≡ tagᵛ.Unknown x → ⊥) → ((x : Span) → t ≡ tagᵛ.Uri x → ⊥) → n ≡ counts_after n (tag_of t)
leaves n (tagᵛ.Head t) no-tag no-uri = refl
leaves n (tagᵛ.Clip t) no-tag no-uri = refl
leaves n (tagᵛ.Unknown t) no-tag no-uri = absurd (no-tag t refl)
leaves n (tagᵛ.Comment t) no-tag no-uri = refl
leaves n (tagᵛ.Uri t) no-tag no-uri = absurd (no-uri t refl)
leaves n (tagᵛ.LeftOut t) no-tag no-uri = refl

pub returns-in-Uri : goal.returns-in-Uri
returns-in-Uri c = (c.after_uri.ensures.0, rw c.in-Uri.is (c.after_uri.ensures.1 (span_of c.in-Uri.field-0)))

pub returns-in-Unknown : goal.returns-in-Unknown
returns-in-Unknown c = (refl, rw c.in-Unknown.is)

pub returns-in_default : goal.returns-in_default
returns-in_default c = (refl, leaves _ c.args.t c.in_default.not-Unknown c.in_default.not-Uri)
