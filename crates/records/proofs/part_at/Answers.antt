-- `part_at`: each way out is the rule at its two tests. Assumes nothing.
use borrow.Author.Tests.{eq-eqb, ne_eqb}
use Rattle.records.specs.Records.{part_at}
use Rattle.records.proofs.part_at.Goals as goal

pub returns-then-end-eq0 : goal.returns-then-end-eq0
unfolding part_at
returns-then-end-eq0 c = let a = c.args in rw (eq-eqb a.start 0 c.if-start-eq0.true, eq-eqb a.end 0 c.if-end-eq0.true)

pub returns-else-end-eq0 : goal.returns-else-end-eq0
unfolding part_at
returns-else-end-eq0 c = let a = c.args in rw (eq-eqb a.start 0 c.if-start-eq0.true, ne_eqb a.end 0 c.if-end-eq0.false)

pub returns-else-start-eq0 : goal.returns-else-start-eq0
unfolding part_at
returns-else-start-eq0 c = rw (ne_eqb c.args.start 0 c.if-start-eq0.false)
