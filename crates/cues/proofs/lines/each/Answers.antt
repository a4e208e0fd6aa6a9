-- `each`: what was put and what the steps left will put are the whole. Rests on `pass_on`, `pass_ends`. Assumes nothing.
use mathlib.Core.Path.{◌∙◌}
use mathlib.Core.List.{[]}
use borrow.Author.Rules.{rules}
use Rattle.cue_reader.specs.Answers.{cursor_of}
use Rattle.output.proofs.Laws.{puts_none, puts_then, puts_as, sends_none, sends_then, sends_as}
use Rattle.cues.proofs.Pass.{pass_starts, pass_on, pass_ends}
use Rattle.cues.proofs.lines.each.Goals as goal

pub loop-k-init : goal.loop-k-init
loop-k-init g c = ([], (puts_none _, sends_none g.O.Write.contents _, pass_starts _ _ _))

pub loop-k-preserved : goal.loop-k-preserved
loop-k-preserved g c =
    let l = c.loop-k in
    let a = c.args in
    let n = c.next_cue-at.ensures in
    let so_far = l.invariant.1 in
    let e = pass_on a.file.now l.invariant.0 (cursor_of l.at) a.cues.clips l._k _ (search rules) n.moved in
    (_, (puts_then so_far.0 n.puts, sends_then g.O.Write.contents n.puts so_far.1 n.sent, e ∙ so_far.2))

pub returns : goal.returns
returns g c =
    let l = c.loop-k in
    let a = c.args in
    let put = l.invariant.1 in
    let e = pass_ends a.file.now l.invariant.0 (cursor_of l.at) a.cues.clips l._k (search rules) ∙ put.2 in
    record { puts = puts_as e put.0; sent = sends_as g.O.Write.contents e put.1 }
