-- `make_file`: the writer's refusal, or the file that it laid at the front of its memory (`Exits`). Assumes nothing.
use mathlib.Core.Path.{sym, ap}
use Rattle.std.proofs.Common.{length-take-le}
use Rattle.tables.specs.Answers.{laid_of}
use Rattle.printing.proofs.Exits.{said_refused, said_given, sends_refused, sends_given}
use Rattle.cue.proofs.Exits.{none_made, made, has_room}
use Rattle.cue.proofs.make_file.Goals as goal

pub returns-in-Err : goal.returns-in-Err
returns-in-Err g c =
    let a = c.args in
    let why = none_made a.text.now a.words.now a.clips _ _ _ c.write.ensures _ _ (ap laid_of c.in-Err.is) in
    let refuse = c.refuse.ensures in
    record {
      says = said_refused _ _ 0 c.number.ensures why refuse.aside refuse.puts;
      sent = sends_refused g.O.Write.contents g.E.Write.contents _ _ 0 c.number.ensures why refuse.aside refuse.sent;
    }

pub returns-in-Ok : goal.returns-in-Ok
returns-in-Ok g c =
    let a = c.args in
    let what = made a.text.now a.words.now a.clips _ _ _ c.write.ensures c.in-Ok.count (ap laid_of c.in-Ok.is) in
    let give = c.give.ensures in
    record {
      says = said_given _ what give.puts give.aside;
      sent = sends_given g.O.Write.contents g.E.Write.contents _ what give.sent give.aside;
    }

pub slice_bounds-give-end : goal.slice_bounds-give-end
slice_bounds-give-end g c =
    let a = c.args in
    has_room a.text.now a.words.now a.clips _ _ _ c.write.ensures c.in-Ok.count (ap laid_of c.in-Ok.is)

pub slice_bounds-give-end-in-Ok : goal.slice_bounds-give-end-in-Ok
slice_bounds-give-end-in-Ok g c = sym (length-take-le _ _ (slice_bounds-give-end g c))
