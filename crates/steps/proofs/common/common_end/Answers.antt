-- `common::common_end`: a line is told by its kind (`of_kind`), a URI as `consume_line` ensures, an EXTINF as `extinf_end` does. Assumes nothing.
use native.Mathlib.Omega.{arith}
use Prim.Native.Nat.{◌-◌, ◌^◌}
use mathlib.Core.Path.{◌≡◌, sym, ◌∙◌, ap}
use mathlib.Core.Bool.{true}
use Rattle.text.specs.Nom.{tagged}
use Rattle.text.specs.Answers.{span_res}
use Rattle.text.proofs.Laws.{tagged_below}
use Rattle.lengths.specs.Answers.{extinf_end}
use Rattle.steps.specs.Inside.Common.{end_in}
use Rattle.steps.specs.Inside.Answers.{kind_of}
use Rattle.steps.proofs.MostLines.{uri_in, extinf_there, of_kind, extinf_ends}
use Rattle.tags.specs.Tags.{literal, extinf_row}
use Rattle.steps.proofs.common.common_end.Goals as goal
use Rattle.steps.proofs.common.common_end.Goals.{In-Extinf}

pub returns-in-Ok : goal.returns-in-Ok
returns-in-Ok c = ap end_in (ap uri_in (sym (ap span_res c.in-Ok.is) ∙ c.consume_line.ensures) ∙ of_kind _ _ c.kind_at.ensures c.in-Uri.is)

pub returns-in-Err : goal.returns-in-Err
returns-in-Err c = ap end_in (ap uri_in (sym (ap span_res c.in-Err.is) ∙ c.consume_line.ensures) ∙ of_kind _ _ c.kind_at.ensures c.in-Uri.is)

-- the line begins as an EXTINF
there : (c : In-Extinf) → (let a = c.args in tagged (literal extinf_row) a.text.now a.at ≡ true)
there c = extinf_there _ _ (sym c.kind_at.ensures ∙ ap kind_of c.in-Extinf.is)

pub overflow_add-at : goal.overflow_add-at
overflow_add-at c = omega (arith, tagged_below _ _ _ (2 ^ 64 - 1) (omega arith) (omega arith) (there (goal.at.overflow_add-at c).In-Extinf))

pub returns-in-Some : goal.returns-in-Some
returns-in-Some c = extinf_ends _ _ (sym (ap extinf_end c.in-Some.is) ∙ c.extinf_end.ensures) (of_kind _ _ c.kind_at.ensures c.in-Extinf.is)

pub returns-in-None : goal.returns-in-None
returns-in-None c = extinf_ends _ _ (sym (ap extinf_end c.in-None.is) ∙ c.extinf_end.ensures) (of_kind _ _ c.kind_at.ensures c.in-Extinf.is)

pub returns-in-Other : goal.returns-in-Other
returns-in-Other c = ap end_in (of_kind _ _ c.kind_at.ensures c.in-Other.is)
