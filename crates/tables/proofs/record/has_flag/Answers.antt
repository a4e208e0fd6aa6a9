-- `record::has_flag`: the rule's own quotient; a flag 0 has the quotient 0. Assumes nothing.
use borrow.Author.Rules.{rules}
use native.Mathlib.Nat.{div-zero}
use Rattle.tables.specs.Table.{has_flag}
use Rattle.tables.proofs.record.has_flag.Goals as goal

pub returns-then-flag-eq0 : goal.returns-then-flag-eq0
unfolding has_flag
returns-then-flag-eq0 c = rw (c.if-flag-eq0.true, div-zero c.args.flags)

pub returns : goal.returns
unfolding has_flag
returns c = search rules
