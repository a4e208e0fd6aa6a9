-- `show`: what came is a front of what the reader had, long enough to show the same, and a flush that went told it. Assumes nothing.
use Rattle.std.proofs.Common.{◌≡◌, length, Ok, None, rules}
use Rattle.output.specs.Held.{why}
use Rattle.printing.proofs.Exits.{not_failed, told_of}
use Rattle.cues.specs.Shown.{shown_file}
use Rattle.cues.proofs.Exits.{front_shows}
use Rattle.cues.proofs.show.Goals as goal

pub returns : goal.returns
returns g c =
    let on_out = g.O.Write.contents in
    let on_err = g.E.Write.contents in
    let run = c.run in
    let flush = c.flush in
    let read : run.result ≡ Ok c.in_ok-map_err.field-0 = search rules in
    let wrote : flush.result ≡ Ok tt = search rules in
    let long : length run.new.file ≡ 393217 = search rules in
    let out_went : why run.new.say.out ≡ None = not_failed _ _ flush.ensures.stays_out (rw wrote (λ h. cc h)) in
    let err_went : why run.new.say.err ≡ None = not_failed _ _ flush.ensures.stays_err (rw wrote (λ h. cc h)) in
    told_of on_out on_err c.args.say.now run.new.say flush.new.self shown_file 393217 front_shows _ _ c.in_ok-map_err.field-0 long
    (rw read at run.ensures.came) (rw read at run.ensures.sent)
    out_went (rw wrote at flush.ensures.sent_out) err_went (rw wrote at flush.ensures.sent_err)
