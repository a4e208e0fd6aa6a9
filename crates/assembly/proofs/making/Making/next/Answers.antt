-- `Making::next` meets its contract: each arm by what the match tells of the tag, a clip's tag by what `told` ensures, a URI by what `empty` ensures. Any
-- other tag leaves what is in the making. Assumes nothing.
use mathlib.Core.Path.{◌≡◌, refl}
use Rattle.text.specs.declared.Span.{Span}
use Rattle.tags.specs.declared.ClipTag.{ClipTag}
use Rattle.tags.specs.Answers.{tag_of}
use Rattle.tags.specs.declared.Tag as tagᵈ
use Rattle.tags.specs.declared.Tag.TheVariants as tagᵛ
use Rattle.assembly.specs.Inside.Making.{Groups, words_after}
use Rattle.assembly.proofs.making.Making.next.Goals as goal

leaves : (g : Groups) (t : tagᵈ.Tag) → ((x : ClipTag) → t ≡ tagᵛ.Clip x → ⊥) → ((x : Span) → t ≡ tagᵛ.Uri x → ⊥) → g ≡ words_after g (tag_of t)
leaves g (tagᵛ.Head t) c u = refl
leaves g (tagᵛ.Clip t) c u = absurd (c t refl)
leaves g (tagᵛ.Unknown t) c u = refl
leaves g (tagᵛ.Comment t) c u = refl
leaves g (tagᵛ.Uri t) c u = absurd (u t refl)
leaves g (tagᵛ.LeftOut t) c u = refl

pub returns-in-Clip : goal.returns-in-Clip
returns-in-Clip c = rw c.in-Clip.is c.told.ensures

pub returns-in-Uri : goal.returns-in-Uri
returns-in-Uri c = rw c.in-Uri.is c.empty.ensures

pub returns-in_default : goal.returns-in_default
returns-in_default c = leaves _ _ c.in_default.not-Clip c.in_default.not-Uri
