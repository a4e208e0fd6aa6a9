-- `list::hold_later`: what is left of the numbers, done from here, is the whole. Assumes nothing.
use borrow.Author.Rules.{rules}
use Prim.Native.Nat.{◌≤◌, ◌<◌, ◌/◌}
use mathlib.Core.Path.{◌∙◌, ap}
use Rattle.tables.proofs.Listed.{listed_left, listed_over}
use Rattle.attributes.specs.Held.{attr_words}
use Rattle.chains.proofs.Overlaid.{overlaid_next, overlaid_end, overlaid_length}
use lib.ListN.{length}
use Rattle.chains.proofs.list.hold_later.Goals as goal

pub loop-n-preserved : goal.loop-n-preserved
loop-n-preserved c =
    let l = c.loop-n in
    let a = c.args in
    let o = c.hold_one.ensures in
    let all = length a.held.now / attr_words in
    let more : l.n < all = search rules in
    (ap length o ∙ overlaid_length _ _ _ ∙ l.invariant.0, rw o (rw (listed_left _ l.n all more, overlaid_next) at l.invariant.1))

pub returns : goal.returns
returns c =
    let l = c.loop-n in
    let a = c.args in
    let all = length a.held.now / attr_words in
    let over : all ≤ l.n = search rules in
    rw (listed_over _ l.n all over, overlaid_end) at l.invariant.1
