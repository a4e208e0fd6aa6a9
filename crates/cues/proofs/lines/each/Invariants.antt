use Prim.Native.Nat.{ℕ, ◌-◌}
use mathlib.Core.Path.{◌≡◌}
use mathlib.Core.List.{List, ◌++◌}
use Rattle.cue_reader.specs.Answers.{cursor_of}
use Rattle.output.specs.Puts.{Puts, Sends}
use Rattle.cues.specs.Inside.Pass.{pass_lines}
use Rattle.cues.proofs.lines.each.Given as goal

abbrev pub invariant-loop-k : goal.invariant-loop-k
invariant-loop-k g l =
    (put : List ℕ)
    × (Puts l.initial.out l.out put
    × Sends g.O.Write.contents l.initial.out l.out put
    × (put ++ pass_lines l.file (cursor_of l.at) (l.clips - l._k) ≡ pass_lines l.file (cursor_of l.initial.at) l.clips))
