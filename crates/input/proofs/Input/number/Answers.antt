-- `number`: eight bytes that the buffer holds are their number. Rests on `held`, `chunk`. Assumes nothing.
use Rattle.std.proofs.Common.{rules}
use Rattle.input.proofs.Laws.{held, chunk}
use Rattle.input.proofs.Input.number.Goals as goal

pub returns-in-Some-first_chunk-clause-held : goal.returns-in-Some-first_chunk-clause-held
returns-in-Some-first_chunk-clause-held g c = λ h.
    let on = held _ _ h in
    let same = chunk c.args.self.now.buffer _ c.args.self.now.at c.args.self.now.end _ c.number_of-value.ensures (search rules) on.1 in
    search rules
