-- `print_all`: what came is a front of what the reader had, long enough to print the same, and a flush that went wrote it. Assumes nothing.
use Rattle.std.proofs.Common.{◌≡◌, length, Ok, None, rules}
use Rattle.output.specs.Held.{why}
use Rattle.printing.proofs.Exits.{not_failed}
use Rattle.sheet.proofs.Exits.{front_printed}
use Rattle.sheet.proofs.print_all.Goals as goal

pub returns : goal.returns
returns g c =
    let contents = g.O.Write.contents in
    let run = c.run in
    let flush = c.flush in
    let read : run.result ≡ Ok c.in_ok-map_err.field-0 = search rules in
    let wrote : flush.result ≡ Ok tt = search rules in
    let long : length run.new.text ≡ 65537 = search rules in
    let went : why run.new.out ≡ None = not_failed _ _ (λ h. (flush.ensures.stays h).0) (rw wrote (λ h. cc h)) in
    front_printed contents c.args.out.now run.new.out flush.new.self _ _ c.in_ok-map_err.field-0 long (rw read at run.ensures.came) (rw read at run.ensures.sent) went (rw wrote at flush.ensures.sent)
