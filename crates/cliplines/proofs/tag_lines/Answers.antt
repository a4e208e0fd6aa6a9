-- `tag_lines` meets its contract. The loop's invariant: the lines of the tags from tag k on, put from here on, are the whole put. Assumes nothing.
use borrow.Author.Rules.{rules}
use native.Mathlib.Omega.{arith}
use mathlib.Core.Path.{◌≡◌, ap, sym, ◌∙◌}
use mathlib.Core.List.{◌++◌}
use Prim.Native.Nat.{◌+◌, ◌-◌, min}
use Rattle.playlist.specs.Lines.{line_bytes, tag_line_of}
use Rattle.playlist.specs.Inside.Texts.{tags_text}
use Rattle.playlist.proofs.Groups.{run_text_lem, tags_next, tags_over}
use Rattle.put.proofs.Putting.{left_all, left_as, left_on, left_none}
use Rattle.cliplines.proofs.tag_lines.Goals as goal

pub loop-k-init : goal.loop-k-init
loop-k-init c =
    let a = c.args in
    let n : min a.count (a.tag_count - a.first) ≡ c.run_end-end.result - a.first = omega (arith, c.run_end-end.ensures) in
    let e = run_text_lem a.text.now a.tags.now a.tag_count a.first a.count ∙ ap (tags_text a.text.now a.tags.now a.first) n in
    (omega (arith, c.run_end-end.ensures), left_as e (left_all _ _ _))

pub loop-k-preserved : goal.loop-k-preserved
loop-k-preserved c =
    let a = c.args in
    let text = a.text.now in
    let tags = a.tags.now in
    let end = c.run_end-end.result in
    let k = c.loop-k.k in
    let next = tags_next text tags k end (search rules) ∙ ap (λ t. line_bytes (tag_line_of text t) ++ tags_text text tags (k + 1) (end - (k + 1))) (sym c.tag_at.ensures) in
    (search rules, left_on (left_as next c.loop-k.invariant.1) c.tag_line-to.ensures)

pub returns : goal.returns
returns c =
    let a = c.args in
    left_none (left_as (tags_over a.text.now a.tags.now c.loop-k.k c.run_end-end.result (search rules)) c.loop-k.invariant.1)
