-- `clip_at`: a clip's words alone hold the same clip, as their first (`clip-alone`). Assumes nothing.
use mathlib.Core.Path.{◌≡◌, refl, ap, ◌∙◌}
use mathlib.Core.List.{List}
use Prim.Native.Nat.{ℕ}
use Rattle.tables.specs.Table.{listed, clip_record}
use Rattle.records.specs.Records.{map_at, clip_at}
use Rattle.records.proofs.clip_at.Goals as goal

-- the list of its words computes
clip-alone : (t : List ℕ) (k : ℕ) → clip_at (clip_record t k) 0 ≡ clip_at t k
unfolding listed map_at clip_at
clip-alone t k = refl

pub returns : goal.returns
returns c =
    let a = c.args in
    c.clip_of.ensures ∙ ap (λ (words : List ℕ). clip_at words 0) c.clip_words-words.ensures ∙ clip-alone a.clips.now a.k
