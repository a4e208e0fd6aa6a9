-- `list::walk_beside`: the walk beside one of the two chains, with its part of the words. Assumes nothing.
use native.Mathlib.Omega.{arith}
use Rattle.chains.proofs.Words.{first_part, second_part, part_length}
use lib.ListN.{length}
use Rattle.chains.proofs.list.walk_beside.Goals as goal

pub returns-then-is_kept : goal.returns-then-is_kept
returns-then-is_kept c = λ t. c.walk.ensures t.fails (rw (first_part (length c.args.held.now) c.args.memory.now) t.first) (rw (first_part (length c.args.held.now) c.args.memory.now) (part_length _ _ 0 (omega arith)))

pub returns : goal.returns
returns c = λ t. c.walk-2.ensures t.fails (rw (second_part (length c.args.held.now) c.args.memory.now) t.second) (rw (second_part (length c.args.held.now) c.args.memory.now) (part_length _ _ 1 (omega arith)))
