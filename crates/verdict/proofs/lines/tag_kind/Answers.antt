-- `lines::tag_kind`: the rows with the byte that stands at place 4 have the answer (`told_having`, `told_none`). Assumes nothing.
use Prim.Native.Char.{code}
use mathlib.Core.Path.{refl, sym, ◌∙◌}
use Rattle.text.specs.Nom.{bytes}
use Rattle.verdict.specs.Inside.Letters.{rows}
use Rattle.verdict.proofs.Letters.{told_having, told_none}
use Rattle.verdict.proofs.lines.tag_kind.Goals as goal

pub returns-in-73 : goal.returns-in-73
returns-in-73 c = told_having _ _ 4 rows refl refl (code "I") (sym c.byte_at.ensures ∙ c.in-73.is) _ c.named.ensures

pub returns-in_default : goal.returns-in_default
returns-in_default c = told_none _ _ 4 rows refl refl _ (sym c.byte_at.ensures) (bytes "-I") c.in_default.in_default-own.rest refl
