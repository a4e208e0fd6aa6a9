-- `lengths`: the sum so far is the rule's, at most 65,535 a clip. Rests on `lengths_step`. Assumes nothing.
use native.Mathlib.Omega.{arith}
use mathlib.Core.Path.{sym}
use Rattle.cue_file.specs.Format.{version1}
use Rattle.cue_reader.proofs.Laws.{lengths_none, lengths_step}
use Rattle.cue_reader.proofs.lengths.Goals as goal

pub loop-k-init : goal.loop-k-init
loop-k-init c = (omega arith, sym (lengths_none version1 _), omega arith)

pub loop-k-preserved : goal.loop-k-preserved
loop-k-preserved c =
    let t = c.args.file.now in
    let l = c.loop-k in
    (omega arith, omega (arith, l.invariant.1, c.uri_length-sum.ensures.0, lengths_step version1 t l.k), omega (arith, l.invariant.2, c.uri_length-sum.ensures.1))
