-- `lay`: the records of the clips passed so far stand at the front of the table, and the rest is as it was (`record_laid`).
-- Assumes nothing.
use native.Mathlib.Omega.{arith}
use Prim.Native.Nat.{◌+◌}
use mathlib.Core.Path.{refl, sym, ap, ◌∙◌}
use lib.ListN.{length}
use Rattle.tables.specs.Layout.{start_words}
use Rattle.tables.proofs.Sets.{stored_length}
use Rattle.tables.proofs.Laying.{records_none}
use Rattle.clock.specs.Clock.{sum_lengths}
use Rattle.clock.proofs.Lengths.{sum_step, sum_mono}
use Rattle.clock.proofs.Moments.{tick_in_reach}
use Rattle.starts.proofs.Laying.{record_next}
use Rattle.starts.proofs.table.lay.Goals as goal

pub loop-k-init : goal.loop-k-init
unfolding sum_lengths
loop-k-init c = (refl, omega arith, sym (records_none _ _))

pub overflow_add-before : goal.overflow_add-before
overflow_add-before c =
    let l = c.loop-k in
    omega (arith, c.requires.1, c.requires.2, l.invariant.1, c.clip_word-before.ensures, sum_step c.args.words.now l.k, sum_mono c.args.words.now (l.k + 1) c.args.clips (omega arith))

pub loop-k-preserved : goal.loop-k-preserved
loop-k-preserved c =
    let l = c.loop-k in
    let t = c.args.words.now in
    let e = c.store_start.ensures in
    let tick = c.tick_at-tick.ensures
    ∙ tick_in_reach _ _ _ _ (omega (arith, c.requires.3)) c.requires.2 (omega (arith, c.requires.1, l.invariant.1, sum_mono t l.k c.args.clips (omega arith))) c.requires.4 in (
      ap length e ∙ (stored_length start_words l.k l.out _ ∙ l.invariant.0),
      omega (arith, l.invariant.1, c.clip_word-before.ensures, sum_step t l.k),
      record_next t c.args.clips c.args.rate c.args.turn l.k c.args.whole l.before _ _ l.out _ c.requires.0 (omega arith) c.requires.1 l.invariant.1 tick l.invariant.2 e,
    )
