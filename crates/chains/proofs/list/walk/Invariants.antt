use Prim.Native.Nat.{ℕ, ◌-◌}
use mathlib.Core.Path.{◌≡◌}
use mathlib.Core.List.{List}
use Rattle.attributes.specs.Pairs.{words}
use Rattle.chains.specs.Inside.Kept.{Leads, TrueFailing, ListFrom}
use Rattle.chains.specs.Inside.Answers.{failing_seen}
use lib.ListN.{length}
use Rattle.chains.proofs.list.walk.Given as goal

abbrev pub invariant-loop-place : goal.invariant-loop-place
invariant-loop-place l =
    Leads l.text l.initial.place l.place
    × ((length l.held ≡ length l.initial.held)
    × (TrueFailing l.text (failing_seen l.initial.fails) → TrueFailing l.text (failing_seen l.fails)
    × ((end : ℕ) (h : List ℕ) → ListFrom l.text (words l.names l.sizes) l.from l.held h end → ListFrom l.text (words l.names l.sizes) l.at l.initial.held h end)))

abbrev pub decreases-loop-place : goal.decreases-loop-place
decreases-loop-place l = length l.text - l.from
