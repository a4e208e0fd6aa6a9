-- `list::has_besides`: from here on there is another name just where the whole list has one. Each pair brings the walk nearer to the text's end. Assumes nothing.
use mathlib.Core.Path.{◌≡◌, refl, sym, ◌∙◌, ap}
use Rattle.text.specs.Nom.{ok}
use Rattle.attributes.specs.Pairs.{next_pair}
use Rattle.attributes.specs.Answers.{pair_of, pair_res}
use Rattle.attributes.proofs.Walk.{pairs_fall, others_stop, others_found, others_step}
use Rattle.attributes.proofs.list.has_besides.Goals as goal
use Rattle.attributes.proofs.list.has_besides.Goals.{In-Ok}

pub loop-p-init : goal.loop-p-init
loop-p-init c = refl

-- the pair that was read
read : (c : In-Ok) →
    next_pair c.args.text.now c.loop-p.from ≡ ok (pair_of c.in-Ok.p) c.in-Ok.after
read c = sym c.next_pair.ensures ∙ ap pair_res c.in-Ok.is

pub loop-p-smaller : goal.loop-p-smaller
loop-p-smaller c = pairs_fall _ _ _ _ (read (goal.at.loop-p-smaller c).In-Ok)

pub loop-p-preserved : goal.loop-p-preserved
loop-p-preserved c = c.loop-p.invariant ∙ others_step _ _ _ _ _ _ (read (goal.at.loop-p-preserved c).In-Ok) (sym c.is_named.ensures ∙ c.if-not-is_named.false)

pub returns-then-not-is_named : goal.returns-then-not-is_named
returns-then-not-is_named c = sym (c.loop-p.invariant ∙ others_found _ _ _ _ _ _ (read (goal.at.returns-then-not-is_named c).In-Ok) (sym c.is_named.ensures ∙ c.if-not-is_named.true))

pub returns : goal.returns
returns c = sym (c.loop-p.invariant ∙ others_stop _ _ _ _ (sym c.next_pair.ensures ∙ ap pair_res c.in_default.is))
