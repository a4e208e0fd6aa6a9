use mathlib.Core.Path.{◌≡◌}
use mathlib.Core.Bool.{true}
use Rattle.tables.specs.Table.{every, clips_fit}
use Rattle.window.specs.Window.{clip_keeps}
use Rattle.window.proofs.keeps_rule.Given as goal

abbrev pub invariant-loop-k : goal.invariant-loop-k
invariant-loop-k l = (clips_fit l.words l.clips ≡ true) × (every (clip_keeps l.text l.words) l.k ≡ true)
