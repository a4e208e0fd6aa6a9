-- `shown_some` meets its contract: the span lies within the text, ends past it, or shows nothing. Assumes nothing.
use borrow.Author.Rules.{rules}
use mathlib.Core.Path.{sym}
use Rattle.put.proofs.Putting.{puts_none, puts_as}
use Rattle.put.proofs.Spans.{shown_none, shown_past, shown_rest}
use Rattle.put.proofs.shown_some.Goals as goal

pub returns-then-end-start : goal.returns-then-end-start
returns-then-end-start c = let a = c.args in puts_as (sym (shown_none a.text.now a.s.start a.s.end (search rules))) puts_none

pub returns-then-text-start : goal.returns-then-text-start
returns-then-text-start c = let a = c.args in puts_as (sym (shown_past a.text.now a.s.start a.s.end (search rules))) puts_none

pub returns : goal.returns
returns c =
    let a = c.args in
    puts_as (sym (shown_rest a.text.now a.s.start a.s.end (search rules))) c.copy-2.ensures
