-- `starts_keep`: every clip so far keeps 22, and behind the first the start before is in hand. Rests on the laws of `every`.
-- Assumes nothing.
use Prim.Native.Nat.{◌+◌, ◌-◌}
use native.Mathlib.Omega.{arith}
use mathlib.Core.Path.{◌≡◌, refl, sym, ◌∙◌}
use Rattle.tables.proofs.Every.{every_none, every_step, every_fails}
use Rattle.cue_reader.proofs.starts_keep.Goals as goal

pub loop-k-init : goal.loop-k-init
loop-k-init c = (every_none _, λ h. absurd (h refl))

pub returns-then-not-start_keeps : goal.returns-then-not-start_keeps
returns-then-not-start_keeps c =
    let l = c.loop-k in
    sym (every_fails _ l.k _ c.loop-k-test.true (sym c.start_keeps.ensures ∙ c.if-not-start_keeps.true))

pub loop-k-preserved : goal.loop-k-preserved
loop-k-preserved c =
    let l = c.loop-k in
    let i : l.k ≡ l.k + 1 - 1 = omega arith in
    (every_step _ l.k l.invariant.0 (sym c.start_keeps.ensures ∙ c.if-not-start_keeps.false), λ h. rw (← i) c.start-after.ensures)
