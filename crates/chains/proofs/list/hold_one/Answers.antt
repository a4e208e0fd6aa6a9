-- `list::hold_one`: the value, if it is later. Assumes nothing.
use mathlib.Core.Path.{sym, ◌∙◌, ap}
use borrow.Author.Tests.{lt-ltb, le-ltb}
use Rattle.attributes.specs.Answers.{attr_of, value_of}
use Rattle.chains.proofs.Overlaid.{over_none, over_some}
use Rattle.chains.proofs.list.hold_one.Goals as goal

pub returns-in_default : goal.returns-in_default
returns-in_default c = over_none _ _ _ (rw (sym c.attr_at.ensures ∙ ap attr_of c.in_default.is))

pub returns-then-from-value_start : goal.returns-then-from-value_start
returns-then-from-value_start c =
    let v = c.value_start.ensures in
    let value = value_of c.in-Some.value in
    c.put.ensures ∙ over_some _ _ _ value (rw (sym c.attr_at.ensures ∙ ap attr_of c.in-Some.is) (rw (lt-ltb _ _ (rw v at c.if-from-value_start.true))))

pub returns-else-from-value_start : goal.returns-else-from-value_start
returns-else-from-value_start c =
    let v = c.value_start.ensures in
    over_none _ _ _ (rw (sym c.attr_at.ensures ∙ ap attr_of c.in-Some.is) (rw (le-ltb _ _ (rw v at c.if-from-value_start.false))))
