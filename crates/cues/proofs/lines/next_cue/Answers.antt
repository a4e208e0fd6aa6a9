-- `next_cue`: a clip's line by what `cue` ensures, and nothing where the step gives no clip. Assumes nothing.
use borrow.Author.Rules.{rules}
use Rattle.std.specs.Prelude.{None, Ok}
use mathlib.Core.Path.{◌≡◌, sym, ap, ◌∙◌}
use Rattle.cue_reader.specs.Answers.{step_of}
use Rattle.output.proofs.Laws.{puts_none, puts_as, sends_none, sends_as}
use Rattle.cues.specs.Inside.Pass.{step_line, step_after}
use Rattle.cues.proofs.lines.next_cue.Goals as goal

pub returns-in-Ok-Some : goal.returns-in-Ok-Some
returns-in-Ok-Some g c =
    let e = rw c.in-Ok-Some.field-0-is at c.in-Ok-Some.ensures in
    record {
      moved = ap (step_after _) e;
      puts = puts_as (ap (step_line _) e) c.cue.ensures.puts;
      sent = sends_as g.O.Write.contents (ap (step_line _) e) c.cue.ensures.sent;
    }

pub returns-in_default : goal.returns-in_default
returns-in_default g c =
    let none : c.in_default.field-0 ≡ None = search rules in
    let e = sym (ap step_of (c.in_default.is ∙ ap Ok none)) ∙ c.next.ensures in
    record {
      moved = ap (step_after _) e;
      puts = puts_as (ap (step_line _) e) (puts_none _);
      sent = sends_as g.O.Write.contents (ap (step_line _) e) (sends_none g.O.Write.contents _);
    }

pub returns-in_default-2 : goal.returns-in_default-2
returns-in_default-2 g c =
    let e = sym (ap step_of c.in_default.is) ∙ c.next.ensures in
    record {
      moved = ap (step_after _) e;
      puts = puts_as (ap (step_line _) e) (puts_none _);
      sent = sends_as g.O.Write.contents (ap (step_line _) e) (sends_none g.O.Write.contents _);
    }
