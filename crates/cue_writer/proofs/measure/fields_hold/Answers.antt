-- `fields_hold`: the lengths of the clips passed so far fit their fields; the count, or the first length that does not, decides. Assumes nothing.
use borrow.Author.Rules.{rules}
use native.Mathlib.Omega.{arith}
use mathlib.Core.Path.{sym}
use Rattle.tables.proofs.Every.{every_none, every_step, every_fewer}
use borrow.Author.Tests.{le-leb}
use Rattle.cue_writer.specs.Inside.Measure.{largest, uri_length}
use Rattle.cue_writer.proofs.Weighed.{uri_holds, wide_count, wide_uri, all_hold}
use Rattle.cue_writer.proofs.measure.fields_hold.Goals as goal

pub returns-then-clips-gt-LARGEST_COUNT : goal.returns-then-clips-gt-LARGEST_COUNT
returns-then-clips-gt-LARGEST_COUNT c = sym (wide_count _ _ (search rules))

pub loop-k-init : goal.loop-k-init
loop-k-init c = (search rules, every_none _)

pub returns-then-uri_length-gt-LARGEST_URI : goal.returns-then-uri_length-gt-LARGEST_URI
returns-then-uri_length-gt-LARGEST_URI c = sym (wide_uri _ _ c.loop-k.k (search rules) (omega (arith, c.uri_length.ensures)))

pub loop-k-preserved : goal.loop-k-preserved
loop-k-preserved c =
    let t = c.args.words.now in
    let k = c.loop-k.k in
    let holds = le-leb (uri_length t k) largest (omega (arith, c.uri_length.ensures)) in
    (search rules, every_step (uri_holds t) k c.loop-k.invariant.1 holds)

pub returns : goal.returns
returns c = let l = c.loop-k in sym (all_hold _ _ (search rules) (every_fewer _ _ l.k (search rules) l.invariant.1))
