-- `zero_words`: the words so far are zeros or not (`zeros_step`). The measure is the words left. Assumes nothing.
use borrow.Author.Rules.{rules}
use mathlib.Core.Path.{◌≡◌, sym, ◌∙◌, ap}
use mathlib.Core.Bool.{◌&&◌}
use lib.Dec.{eqb}
use Rattle.rule9.specs.Inside.Held.{zero_words}
use Rattle.rule9.proofs.Zeros.{zeros_none, zeros_step}
use Rattle.rule9.proofs.zero_words.Goals as goal

pub loop-place-init : goal.loop-place-init
loop-place-init c = (search rules, search rules, sym (zeros_none _ _ _))

pub loop-place-preserved : goal.loop-place-preserved
loop-place-preserved c =
    let l = c.loop-place in
    (search rules, search rules, (λ i. l.invariant.2 i && eqb (c.held_word-word.ensures i) 0) ∙ sym (zeros_step _ _ _ l.place l.invariant.0))

pub returns : goal.returns
returns c =
    let end : c.loop-place.place ≡ c.args.to = search rules in
    c.loop-place.invariant.2 ∙ ap (zero_words _ _ _) end
