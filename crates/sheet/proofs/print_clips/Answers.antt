-- `print_clips`: the refusal of the cursor, or the lines of its pass. Assumes nothing.
use Prim.Native.Nat.{ℕ}
use mathlib.Core.Path.{sym, ap, ◌∙◌}
use Rattle.tables.specs.Refusal.{Answer}
use Rattle.starts.specs.Answers.{opened_of}
use Rattle.starts.specs.Starts.{Cursor}
use Rattle.output.proofs.Laws.{puts_as, sends_as}
use Rattle.printing.specs.Lines.{refused_line}
use Rattle.printing.specs.Said.{printed}
use Rattle.sheet.specs.Inside.Pass.{opened_sheet, words_sheet}
use Rattle.sheet.proofs.print_clips.Goals as goal

pub returns-in-Err : goal.returns-in-Err
unfolding words_sheet
returns-in-Err g c =
    let a = c.args in
    let e = ap (λ (n : ℕ). refused_line n 0) c.number.ensures ∙ ap (λ (x : Answer Cursor). printed (opened_sheet a.text.now a.words.now x)) (sym (ap opened_of c.in-Err.is) ∙ c.new.ensures) in
    record { puts = puts_as e c.refused.ensures.puts; sent = sends_as g.O.Write.contents e c.refused.ensures.sent }

pub returns-in-Ok : goal.returns-in-Ok
unfolding words_sheet
returns-in-Ok g c =
    let a = c.args in
    let e = ap (λ (x : Answer Cursor). printed (opened_sheet a.text.now a.words.now x)) (sym (ap opened_of c.in-Ok.is) ∙ c.new.ensures) in
    record { puts = puts_as e c.sheet.ensures.puts; sent = sends_as g.O.Write.contents e c.sheet.ensures.sent }
