-- `clip_within`: the clips passed so far are over by then; the first that isn't is the rule's (`within_is`), and there is one. Assumes nothing.
use borrow.Author.Rules.{rules}
use native.Mathlib.Omega.{arith}
use mathlib.Core.Path.{sym}
use Rattle.clock.specs.Clock.{sum_lengths}
use Rattle.clock.proofs.Lengths.{sum_step}
use Rattle.playing.proofs.Pairs.{within_is}
use Rattle.playing.proofs.clip_within.Goals as goal

pub loop-clip-init : goal.loop-clip-init
unfolding sum_lengths
loop-clip-init c = search rules

pub returns-then-left-length : goal.returns-then-left-length
returns-then-left-length c =
    let a = c.args in let l = c.loop-clip in let s = sum_step a.words.now l.clip in
    record {
      found = sym (within_is a.words.now a.clips a.rest l.clip (omega arith) (omega (arith, l.invariant)) (omega (arith, l.invariant, c.clip_word-length.ensures, s)));
      in_list = omega arith;
      before_it = l.invariant.0;
      its_own = c.clip_word-length.ensures;
    }

pub loop-clip-preserved : goal.loop-clip-preserved
loop-clip-preserved c = omega (arith, c.loop-clip.invariant, c.clip_word-length.ensures, sum_step c.args.words.now c.loop-clip.clip)
