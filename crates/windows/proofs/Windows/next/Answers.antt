-- `Windows::next`: its three ways out are `next_done`, `next_9` and `next_clip`. Assumes nothing.
use mathlib.Core.Path.{sym, ◌∙◌}
use Rattle.windows.proofs.Pass.{next_done, next_9, next_clip}
use Rattle.windows.proofs.Windows.next.Goals as goal

pub returns-then-clips-clip : goal.returns-then-clips-clip
returns-then-clips-clip c = sym (next_done _ _ _ _ _ c.if-clips-clip.true)

pub returns-then-not-clip_keeps : goal.returns-then-not-clip_keeps
returns-then-not-clip_keeps c = sym (next_9 _ _ _ _ _ c.if-clips-clip.false (sym c.clip_keeps.ensures ∙ c.if-not-clip_keeps.true))

pub returns : goal.returns
returns c = sym (next_clip _ _ _ _ _ _ c.if-clips-clip.false (sym c.clip_keeps.ensures ∙ c.if-not-clip_keeps.false) c.window_after-window.ensures)
