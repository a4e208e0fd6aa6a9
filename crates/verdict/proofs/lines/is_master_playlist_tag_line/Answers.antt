-- `lines::is_master_playlist_tag_line`: what is skipped, the kind and the rest of the line, in the rule's order. Assumes nothing.
use mathlib.Core.Path.{sym, ◌∙◌, ap}
use borrow.Author.Tests.{lt-ltb, le-ltb}
use Rattle.verdict.specs.Verdict.{is_master_playlist_tag_line}
use Rattle.verdict.specs.Answers.{opt_kind}
use Rattle.verdict.proofs.lines.is_master_playlist_tag_line.Goals as goal

pub returns-then-text-at : goal.returns-then-text-at
unfolding is_master_playlist_tag_line
returns-then-text-at c = rw (le-ltb _ _ c.if-text-at.true)

pub returns-in-Ok : goal.returns-in-Ok
unfolding is_master_playlist_tag_line
returns-in-Ok c =
    let kind = sym c.tag_kind.ensures ∙ ap (opt_kind _) c.in-Ok.is in
    rw (lt-ltb _ _ c.if-text-at.false, ← c.while_in-hash.ensures, kind) c.with_rest.ensures

pub returns-in-Err : goal.returns-in-Err
unfolding is_master_playlist_tag_line
returns-in-Err c =
    let none = sym c.tag_kind.ensures ∙ ap (opt_kind _) c.in-Err.is in
    rw (lt-ltb _ _ c.if-text-at.false, ← c.while_in-hash.ensures, none) c.with_rest-in-Err.ensures
