-- `show_file`: each exit by what is said there (`Exits`). Assumes nothing.
use mathlib.Core.Path.{refl, sym, ap, ◌∙◌}
use borrow.Author.Rules.{rules}
use Rattle.cue_reader.specs.Answers.{opened_of}
use Rattle.printing.proofs.Exits.{said_refused, said_given, sends_refused, sends_given}
use Rattle.cues.proofs.Exits.{too_long, not_taken, was_taken}
use Rattle.cues.proofs.show_file.Goals as goal

pub returns-then-file-gt-FILE_SIZE : goal.returns-then-file-gt-FILE_SIZE
returns-then-file-gt-FILE_SIZE g c =
    let why = too_long c.args.file.now (search rules) in
    record {
      says = said_refused _ _ 0 c.number.ensures why c.refuse.ensures.aside c.refuse.ensures.puts;
      sent = sends_refused g.O.Write.contents g.E.Write.contents _ _ 0 c.number.ensures why c.refuse.ensures.aside c.refuse.ensures.sent;
    }

pub returns-in-Err : goal.returns-in-Err
returns-in-Err g c =
    let why = not_taken c.args.file.now (search rules) _ 0 (sym c.new.ensures ∙ ap opened_of c.in-Err.is) in
    record {
      says = said_refused _ _ 0 c.number-in-Err.ensures why c.refuse-in-Err.ensures.aside c.refuse-in-Err.ensures.puts;
      sent = sends_refused g.O.Write.contents g.E.Write.contents _ _ 0 c.number-in-Err.ensures why c.refuse-in-Err.ensures.aside c.refuse-in-Err.ensures.sent;
    }

pub returns-in-Ok : goal.returns-in-Ok
returns-in-Ok g c =
    let what = was_taken c.args.file.now (search rules) _ (sym c.new.ensures ∙ ap opened_of c.in-Ok.is) in
    record {
      says = said_given _ what c.cues.ensures.puts refl;
      sent = sends_given g.O.Write.contents g.E.Write.contents _ what c.cues.ensures.sent refl;
    }
