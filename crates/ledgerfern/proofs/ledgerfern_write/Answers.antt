-- `ledgerfern_write`: by whether the numbers are a head's; then the numbers of what the library's call ensures, and its output. Assumes nothing.
use mathlib.Core.Path.{sym, ◌∙◌, ap}
use Rattle.ledgerfern.specs.Answers.{head_res}
use Rattle.ledgerfern.proofs.Writes.{no_head, a_head}
use Rattle.ledgerfern.proofs.ledgerfern_write.Goals as goal

pub returns-in_default : goal.returns-in_default
returns-in_default c =
    let none-there = sym c.head_of.ensures ∙ ap head_res c.in_default.is in
    no_head none-there c.of_no_head.ensures

pub returns : goal.returns
returns c =
    let there = sym c.head_of.ensures ∙ ap head_res c.in-Some.is in
    let p = c.write_to.ensures in
    a_head there c.from.ensures p.answered p.out_after
