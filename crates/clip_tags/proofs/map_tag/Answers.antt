-- `map_tag`: what `starts_with` and `extmap` ensure; where the tag's text is not there, the memory is as it was. Assumes nothing.
use native.Mathlib.Omega.{arith}
use Prim.Native.Nat.{◌-◌, ◌^◌}
use Rattle.text.proofs.Laws.{tagged_below}
use mathlib.Core.Path.{sym, ◌∙◌, ap}
use Rattle.text.proofs.Tried.{handed_on}
use Rattle.tags.specs.Answers.{tag_res}
use Rattle.clip_tags.proofs.map_tag.Goals as goal

pub overflow_add-at : goal.overflow_add-at
overflow_add-at c = omega (arith, tagged_below _ _ _ (2 ^ 64 - 1) (omega arith) (omega arith) (sym c.starts_with.ensures ∙ c.if-starts_with.true))

pub returns-then-starts_with : goal.returns-then-starts_with
returns-then-starts_with c kept =
    let read = c.in_ok-m.ensures kept in
    (rw (sym c.starts_with.ensures ∙ c.if-starts_with.true, sym read.0), read.1)

pub returns-in_err-m : goal.returns-in_err-m
returns-in_err-m c kept =
    let read = c.in_err-m.ensures kept in
    (ap tag_res (handed_on _ _ c.from_residual.ensures.1) ∙ rw (sym c.starts_with.ensures ∙ c.if-starts_with.true, sym read.0), read.1)

pub returns : goal.returns
returns c kept = (rw (sym c.starts_with.ensures ∙ c.if-starts_with.false), kept)
