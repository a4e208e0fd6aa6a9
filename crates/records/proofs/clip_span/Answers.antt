-- `clip_span`: the two words, each at its place of the first clip. Assumes nothing.
use native.Mathlib.Nat.{zero-add}
use Rattle.records.proofs.clip_span.Goals as goal

pub returns : goal.returns
returns c = let a = c.args in rw (zero-add a.start, zero-add a.end)
