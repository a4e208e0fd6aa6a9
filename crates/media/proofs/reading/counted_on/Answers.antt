-- `counted_on` meets its contract: a left-out tag and one of the head by what the match tells of it; any other leaves the head, and is not refused, as it
-- is no EXTINF. Assumes nothing.
use mathlib.Core.Path.{◌≡◌, refl, ap}
use mathlib.Core.Option.{none}
use Rattle.tags.specs.Answers.{tag_of}
use Rattle.tags.specs.declared.HeadTag.{HeadTag}
use Rattle.tags.specs.declared.LeftOut.{LeftOut}
use Rattle.tags.specs.declared.Tag as tagᵈ
use Rattle.tags.specs.declared.Tag.TheVariants as tagᵛ
use Rattle.assembly.specs.Assembly.{Head, head_after}
use Rattle.media.specs.Calls.{refused_tag}
use Rattle.media.specs.Inside.Passes.{timed_in}
use Rattle.media.proofs.reading.counted_on.Goals as goal

-- the tags but those of the head and those left out
taken-on : (t : tagᵈ.Tag) → ((x : HeadTag) → t ≡ tagᵛ.Head x → ⊥) → ((x : LeftOut) → t ≡ tagᵛ.LeftOut x → ⊥) → timed_in (tag_of t) ≡ none
    → (refused_tag (tag_of t) ≡ none) × ((h : Head) → head_after h (tag_of t) ≡ h)
taken-on (tagᵛ.Head t) no-head no-left e = absurd (no-head t refl)
taken-on (tagᵛ.Clip t) no-head no-left e = (rw e, λ h. refl)
taken-on (tagᵛ.Unknown t) no-head no-left e = (refl, λ h. refl)
taken-on (tagᵛ.Comment t) no-head no-left e = (refl, λ h. refl)
taken-on (tagᵛ.Uri t) no-head no-left e = (refl, λ h. refl)
taken-on (tagᵛ.LeftOut t) no-head no-left e = absurd (no-left t refl)

pub returns-in-LeftOut : goal.returns-in-LeftOut
returns-in-LeftOut c = rw c.in-LeftOut.is

pub returns-in-Head : goal.returns-in-Head
returns-in-Head c = (refl, ap tag_of c.in-Head.is)

pub returns-in_default : goal.returns-in_default
returns-in_default c = let on = taken-on c.args.t c.in_default.not-Head c.in_default.not-LeftOut c.requires in (refl, on.0, on.1)
