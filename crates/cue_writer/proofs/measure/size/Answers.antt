-- `size`: the sum counts the records, the trailer and the URIs of the clips passed so far. Where the fields hold theirs it is small. Assumes nothing.
use borrow.Author.Rules.{rules}
use native.Mathlib.Omega.{arith}
use Prim.Native.Nat.{◌+◌}
use mathlib.Core.Path.{◌≡◌}
use Rattle.cue_writer.specs.Inside.Measure.{uris_size, size}
use Rattle.cue_writer.proofs.Weighed.{count_small, uris_small, uris_step}
use Rattle.cue_writer.proofs.measure.size.Goals as goal

pub overflow_mul-sum : goal.overflow_mul-sum
overflow_mul-sum c = omega (arith, count_small _ _ c.requires)

pub overflow_add-sum : goal.overflow_add-sum
overflow_add-sum c = omega (arith, count_small _ _ c.requires)

pub loop-k-init : goal.loop-k-init
unfolding uris_size
loop-k-init c = search rules

pub overflow_add-sum-in-loop-k : goal.overflow_add-sum-in-loop-k
overflow_add-sum-in-loop-k c =
    let l = c.loop-k in
    let t = c.args.words.now in
    let small = uris_small t c.args.clips c.requires (l.k + 1) (search rules) in
    omega (arith, l.invariant.1, c.uri_length.ensures, count_small _ _ c.requires, small, uris_step t l.k)

pub loop-k-preserved : goal.loop-k-preserved
loop-k-preserved c =
    let l = c.loop-k in
    (search rules, omega (arith, l.invariant.1, c.uri_length.ensures, uris_step c.args.words.now l.k))

pub returns : goal.returns
unfolding size
returns c =
    let l = c.loop-k in
    let a = c.args in
    let e : l.k ≡ a.clips = omega (arith, l.invariant.0) in
    let q = rw e at l.invariant.1 in
    omega (arith, q)
