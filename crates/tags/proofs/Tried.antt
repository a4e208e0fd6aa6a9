-- Alternatives as the code tries them: one that fails leaves the answer to those after it, one that holds is the answer. Assumes nothing.
use Rattle.std.specs.Prelude.{Result, Ok, Err}
use Rattle.std.specs.Result.{result_or}
use Prim.Native.Nat.{ℕ}
use mathlib.Core.Path.{◌≡◌, refl, sym, ◌∙◌, ap}
use Rattle.text.specs.Nom.{Res, or_else}
use Rattle.text.specs.declared.Why as whyᵈ
use Rattle.text.specs.Answers.{why_of}
use Rattle.text.proofs.Chain.{alt_skip, alt_here}
use Rattle.tags.specs.declared.Tag as tagᵈ
use Rattle.tags.specs.Tags.{Tag}
use Rattle.tags.specs.Answers.{tag_of, tag_res}

pub failed : {r : Result (tagᵈ.Tag × ℕ) whyᵈ.Why} {p q : Res Tag} {why : whyᵈ.Why} → tag_res r ≡ p → r ≡ Err why → q ≡ or_else p q
failed {r} {p} {q} {why} e h = alt_skip p q q (why_of why) (sym e ∙ ap tag_res h) refl

pub held : (q : Res Tag) {r : Result (tagᵈ.Tag × ℕ) whyᵈ.Why} {p : Res Tag} {t : tagᵈ.Tag} {n : ℕ} → tag_res r ≡ p → r ≡ Ok (t, n) → tag_res r ≡ or_else p q
held q {r} {p} {t} {n} e h = ap tag_res h ∙ alt_here p q (tag_of t) n (sym e ∙ ap tag_res h)

-- of two answers the first that holds is the rule's first that holds
pub either_said : (r s : Result (tagᵈ.Tag × ℕ) whyᵈ.Why) → tag_res (result_or r s) ≡ or_else (tag_res r) (tag_res s)
either_said (Ok v) s = refl
either_said (Err why) s = refl
