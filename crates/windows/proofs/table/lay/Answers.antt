-- `lay`: the records of the clips passed so far stand at the front of the table, the rest is as it was (`record_laid`), and with the window in hand the next
-- clip's is the rule's. Assumes nothing.
use native.Mathlib.Omega.{arith}
use native.Mathlib.Numerals.{add-one}
use mathlib.Core.Path.{refl, sym, ap, ◌∙◌}
use lib.ListN.{length}
use Rattle.tables.specs.Layout.{window_words}
use Rattle.tables.proofs.Sets.{stored_length}
use Rattle.tables.proofs.Laying.{records_none}
use Rattle.window.proofs.Chain.{window_first, window_after_lem}
use Rattle.windows.proofs.Laying.{record_next}
use Rattle.windows.proofs.table.lay.Goals as goal

pub loop-k-init : goal.loop-k-init
loop-k-init c = (omega arith, refl, window_first _ _ _, sym (records_none _ _))

pub loop-k-preserved : goal.loop-k-preserved
loop-k-preserved c =
    let l = c.loop-k in
    let w = c.window_after-before.ensures ∙ l.invariant.2 in
    let e = c.store_window.ensures in (
      omega arith,
      ap length e ∙ (stored_length window_words l.k l.out _ ∙ l.invariant.1),
      rw (w, add-one l.k) (window_after_lem _ _ l.k),
      record_next _ _ c.args.clips l.k _ _ _ l.out _ c.requires (omega arith) w c.words_of-record.ensures l.invariant.3 e,
    )
