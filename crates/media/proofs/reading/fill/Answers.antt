-- `fill` meets its contract: what the loop keeps (`Filling`, with a state of the rule behind the counts and the clip in the making, and a memory that is
-- true of the text) holds at its start, goes on by a step, and says it all where there is no step. What a step says is what `State::step` ensures. The
-- measure is what is left of the text. Assumes nothing.
use mathlib.Core.Path.{refl, sym, ◌∙◌, ap}
use Rattle.chains.proofs.Nothing.{nothing_kept}
use Rattle.tags.specs.Tags.{step}
use Rattle.tags.proofs.Takes.{takes_step}
use Rattle.assembly.specs.Assembly.{begin, next}
use Rattle.std.specs.Prelude.{None, Some}
use Rattle.media.specs.Inside.Passes.{held_counts, held_after, StepSays}
use Rattle.media.proofs.Fills.{held_next}
use Rattle.media.proofs.Passes.{TookTo, took_less, within_counts}
use Rattle.media.proofs.Filling.{filling_starts, filling_on, filling_ends}
use Rattle.media.proofs.reading.fill.Goals as goal
use Rattle.media.proofs.reading.fill.Goals.{In-Some}

-- ---- a turn: what its step says, and where that goes
said-next : (c : In-Some)
    → StepSays step (Some c.in-Some.next) c.loop-next.s c.args.text.now c.args.kept c.loop-next.clips c.loop-next.tags c.step.new.clips c.step.new.tags
said-next c = rw c.in-Some.is at c.step.ensures.step_says

took-next : (c : In-Some) → TookTo step c.args.text.now c.loop-next.s.counts.at (said-next c).0 c.in-Some.next.counts.at
took-next c = record { taken = (said-next c).1.takes }

pub loop-next-init : goal.loop-next-init
loop-next-init c =
    let made = c.new-s.ensures in
    let asked = c.requires in
    (begin, filling_starts (made.0 ∙ asked.at_value) asked.fillable, made.1, refl, nothing_kept _)

pub slice_bounds-step-end : goal.slice_bounds-step-end
slice_bounds-step-end c = sym c.loop-next.invariant.3

pub step-requires : goal.step-requires
step-requires c =
    let i = c.loop-next.invariant in record {
      counting = within_counts i.1.within (ap held_counts i.2);
      remembers_maps = i.4;
    }

pub shape_of-clips : goal.shape_of-clips
shape_of-clips c = c.step.auto.clips ∙ c.loop-next.invariant.1.clips_length

pub shape_of-tags : goal.shape_of-tags
shape_of-tags c = c.step.auto.tags ∙ c.loop-next.invariant.1.tags_length

pub returns : goal.returns
returns c =
    let said : StepSays step None c.loop-next.s c.args.text.now c.args.kept c.loop-next.clips c.loop-next.tags c.step.new.clips c.step.new.tags = rw c.in_default.is at c.step.ensures.step_says in
    let ends = filling_ends takes_step c.loop-next.invariant.1 said.0 said.1 in
    record { clips_filled = said.2 ∙ ends.clips_filled; tags_filled = said.3 ∙ ends.tags_filled }

pub loop-next-smaller : goal.loop-next-smaller
loop-next-smaller c = took_less takes_step (took-next (goal.at.loop-next-smaller c).In-Some)

pub loop-next-preserved : goal.loop-next-preserved
loop-next-preserved c =
    let i = c.loop-next.invariant in
    let t = (said-next (goal.at.loop-next-preserved c).In-Some).0 in
    let said = (said-next (goal.at.loop-next-preserved c).In-Some).1 in (
      next i.0 t,
      filling_on takes_step i.1 (took-next (goal.at.loop-next-preserved c).In-Some) (rw i.2 at said.clips_put_lem) (rw i.2 at said.tags_put_lem),
      said.goes_on ∙ ap (λ x. held_after x t) i.2 ∙ held_next i.0 t,
      c.step.auto.memory ∙ i.3,
      c.step.ensures.remembers_maps_2,
    )
