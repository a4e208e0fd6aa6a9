-- `list::last_of_each`: the walk from here on, with what is held, gives what the whole walk gives. Each pair brings it nearer to the text's end. Assumes nothing.
use mathlib.Core.Path.{◌≡◌, refl, sym, ◌∙◌, ap}
use lib.ListN.{length}
use Rattle.text.specs.Nom.{ok}
use Rattle.attributes.specs.Pairs.{next_pair}
use Rattle.attributes.specs.Answers.{pair_of, pair_res}
use Rattle.attributes.proofs.Laid.{laid_length}
use Rattle.attributes.proofs.Walk.{pairs_fall, ends_stop, ends_step, held_from, held_stop, held_step, held_all}
use Rattle.attributes.proofs.list.last_of_each.Goals as goal
use Rattle.attributes.proofs.list.last_of_each.Goals.{In_default, In-Ok}

pub loop-p-init : goal.loop-p-init
loop-p-init c = (refl, refl)

-- the pair that was read
read : (c : In-Ok) →
    let a = c.args in
    next_pair a.text.now c.loop-p.from ≡ ok (pair_of c.in-Ok.p) c.in-Ok.after
read c = sym c.next_pair.ensures ∙ ap pair_res c.in-Ok.is

pub loop-p-smaller : goal.loop-p-smaller
loop-p-smaller c = pairs_fall _ _ _ _ (read (goal.at.loop-p-smaller c).In-Ok)

pub loop-p-preserved : goal.loop-p-preserved
loop-p-preserved c =
    let l = c.loop-p in
    (l.invariant.0 ∙ ends_step _ _ _ _ (read (goal.at.loop-p-preserved c).In-Ok), l.invariant.1 ∙ held_step _ _ _ _ _ _ _ (read (goal.at.loop-p-preserved c).In-Ok) c.insert.ensures)

pub returns : goal.returns
returns c =
    let l = c.loop-p in
    let k = c.clear in
    let f = sym c.next_pair.ensures ∙ ap pair_res c.in_default.is in
    record {
      ends = sym (l.invariant.0 ∙ ends_stop _ _ _ f);
      holds = sym (l.invariant.1 ∙ held_stop _ _ _ _ _ f) ∙ ap (held_from _ _ _) k.ensures ∙ held_all _ _ _ _;
    }

pub shape_of-held : goal.shape_of-held
shape_of-held c = ap length (returns c).holds ∙ laid_length _ _
