-- `clips`: what the steps left put, put from here on, is the whole put. Assumes nothing.
use borrow.Author.Rules.{rules}
use Prim.Native.Nat.{◌+◌, ◌-◌}
use Rattle.std.specs.Prelude.{None, Ok}
use mathlib.Core.Path.{◌≡◌, sym, ap, ◌∙◌}
use mathlib.Core.List.{◌++◌}
use Rattle.starts.specs.Answers.{cursor_of, step_of}
use Rattle.put.proofs.Putting.{left_as, left_on, left_none}
use Rattle.cue_writer.specs.Inside.Pass.{step_after, step_bytes, pass_bytes}
use Rattle.cue_writer.proofs.Pass.{pass_left, pass_over, pass_done, pass_refused}
use Rattle.cue_writer.proofs.rows.clips.Goals as goal

pub loop-k-preserved : goal.loop-k-preserved
loop-k-preserved c =
    let a = c.args in
    let t = a.words.now in
    let n = a.starts.clips in
    let k = c.loop-k._k in
    let from = cursor_of c.loop-k.starts in
    let e = rw c.in-Ok-Some.field-0-is at c.in-Ok-Some.ensures in
    let left = pass_left t from n k (search rules) ∙ ap (λ d. step_bytes t d ++ pass_bytes t (step_after from d) (n - (k + 1))) (sym e) in
    (search rules, left_on (left_as left c.loop-k.invariant.1) c.clip-to.ensures)

pub returns-in_default : goal.returns-in_default
returns-in_default c =
    let none : c.in_default.field-0 ≡ None = search rules in
    left_none (left_as (pass_done _ _ _ (sym (ap step_of (c.in_default.is ∙ ap Ok none)) ∙ c.next.ensures)) c.loop-k.invariant.1)

pub returns-in_default-2 : goal.returns-in_default-2
returns-in_default-2 c = left_none (left_as (pass_refused _ _ _ _ _ (sym (ap step_of c.in_default.is) ∙ c.next.ensures)) c.loop-k.invariant.1)

pub returns : goal.returns
returns c =
    let a = c.args in
    left_none (left_as (pass_over a.words.now (cursor_of c.loop-k.starts) a.starts.clips c.loop-k._k (search rules)) c.loop-k.invariant.1)
