use Prim.Native.Nat.{ℕ, ◌-◌, ◌/◌}
use mathlib.Core.Path.{◌≡◌}
use mathlib.Core.Option.{Option}
use Rattle.tables.specs.Table.{listed}
use Rattle.attributes.specs.Pairs.{QuotedOrUnquoted}
use Rattle.attributes.specs.Held.{attr_words, attr_at}
use Rattle.chains.specs.Inside.Kept.{later, overlaid}
use lib.ListN.{length}
use Rattle.chains.proofs.list.hold_later.Given as goal

abbrev pub invariant-loop-n : goal.invariant-loop-n
invariant-loop-n l =
    let all = length l.initial.held / attr_words in
    let at : ℕ → Option QuotedOrUnquoted = λ k. later l.from (attr_at l.kept k) in
    (length l.held ≡ length l.initial.held) × (overlaid (listed at l.n (all - l.n)) l.n l.held ≡ overlaid (listed at 0 all) 0 l.initial.held)
