-- `State::put` meets its contract: each arm by what the match tells of the tag, a URI by what `put_clip` ensures, an unknown tag by what `put_tag` ensures.
-- Any other tag stores nothing. Assumes nothing.
use mathlib.Core.Path.{◌≡◌, refl}
use mathlib.Core.List.{List}
use Prim.Native.Nat.{ℕ}
use Rattle.tags.specs.Answers.{tag_of}
use Rattle.text.specs.declared.Span.{Span}
use Rattle.leaves.specs.declared.basic_tags.ExtTag.{ExtTag}
use Rattle.tags.specs.declared.Tag as tagᵈ
use Rattle.tags.specs.declared.Tag.TheVariants as tagᵛ
use Rattle.media.specs.Inside.Passes.{Held, state_seen, clips_put, tags_put}
use Rattle.media.proofs.state.State.put.Goals as goal

adds_none : (s : Held) (kept : ℕ) (clips tags : List ℕ) (t : tagᵈ.Tag) → ((x : ExtTag) → t ≡ tagᵛ.Unknown x → ⊥) → ((x : Span) → t ≡ tagᵛ.Uri x → ⊥)
    → (clips ≡ clips_put s (tag_of t) clips) × (tags ≡ tags_put s kept (tag_of t) tags)
adds_none s kept clips tags (tagᵛ.Head t) no-tag no-uri = (refl, refl)
adds_none s kept clips tags (tagᵛ.Clip t) no-tag no-uri = (refl, refl)
adds_none s kept clips tags (tagᵛ.Unknown t) no-tag no-uri = absurd (no-tag t refl)
adds_none s kept clips tags (tagᵛ.Comment t) no-tag no-uri = (refl, refl)
adds_none s kept clips tags (tagᵛ.Uri t) no-tag no-uri = absurd (no-uri t refl)
adds_none s kept clips tags (tagᵛ.LeftOut t) no-tag no-uri = (refl, refl)

pub returns-in-Uri : goal.returns-in-Uri
returns-in-Uri c =
    rw c.in-Uri.is record {
      clips_after = c.put_clip.ensures;
      tags_after = refl;
    }

pub returns-in-Unknown : goal.returns-in-Unknown
returns-in-Unknown c =
    rw c.in-Unknown.is record {
      clips_after = refl;
      tags_after = c.put_tag.ensures;
    }

pub returns-in_default : goal.returns-in_default
returns-in_default c =
    let none = adds_none (state_seen c.args.self) c.args.kept _ _ c.args.t c.in_default.not-Unknown c.in_default.not-Uri in
    record { clips_after = none.0; tags_after = none.1 }
