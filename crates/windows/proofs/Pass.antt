-- The pass over all windows: its k-th step gives what the call answers of clip k, and after the last it is done. Rests on the laws of the window.
-- Assumes nothing.
use mathlib.Core.Path.{◌≡◌}
use mathlib.Core.Bool.{true, false}
use mathlib.Core.List.{List}
use Prim.Native.Nat.{ℕ, suc, ◌+◌, ◌≤◌, ◌<◌}
use native.Mathlib.Nat.{le_refl}
use native.Mathlib.Numerals.{add-one}
use borrow.Author.Tests.{lt-ltb, le-ltb}
use Rattle.tables.specs.Refusal.{Answer, refused, given, broken_table}
use Rattle.window.specs.Window.{Window, window_of, clip_keeps, window}
use Rattle.window.specs.After.{window_after}
use Rattle.window.proofs.Chain.{window_before, window_next}
use Rattle.window.proofs.Laws.{OverClips, clips_front, keeps_at, window_given}
use Rattle.windows.specs.Windows.{Cursor, cursor, row, done, clip, windows, next}

-- ---- the pass
-- the cursor before clip k
abbrev pub cursor_at : List ℕ → List ℕ → ℕ → ℕ → Cursor
cursor_at text t n k = cursor n k (window_before text t k)

module _ (text t : List ℕ) (n : ℕ) (g : OverClips text t n) where
  -- it opens before clip 0
  pub pass_opens : windows text t n ≡ given (cursor_at text t n 0)
  unfolding windows
  pass_opens = (clips_front text t n).on _ g

  -- it goes from each clip to the next
  pub pass_steps : (k : ℕ) → k < n → next text t (cursor_at text t n k) ≡ given (clip (row k (window_of text t k)) (cursor_at text t n (suc k)))
  unfolding next
  pass_steps k h = rw (lt-ltb k n h, keeps_at text t n k g h, window_next text t k)

  -- and ends after the last
  pub pass_ends : next text t (cursor_at text t n n) ≡ given done
  unfolding next
  pass_ends = rw (le-ltb n n (le_refl n))

  -- what it gives of clip k is what `window` answers
  pub pass_answers : (k : ℕ) → k < n → next text t (cursor_at text t n k) ≡ given (clip (row k (window text t n k)) (cursor_at text t n (suc k)))
  pass_answers k h = rw (window_given text t n k g h) (pass_steps k h)

-- ---- one step, from any cursor: what the code has in hand at each of its three ways out
module _ (text t : List ℕ) (n k : ℕ) (before : Answer Window) where
  pub next_done : n ≤ k → next text t (cursor n k before) ≡ given done
  unfolding next
  next_done h = rw (le-ltb k n h)

  pub next_9 : k < n → clip_keeps text t k ≡ false → next text t (cursor n k before) ≡ refused broken_table 0
  unfolding next
  next_9 h e = rw (lt-ltb k n h, e)

  pub next_clip : (w : Answer Window) → k < n → clip_keeps text t k ≡ true → w ≡ window_after text t k before → next text t (cursor n k before) ≡ given (clip (row k w) (cursor n (k + 1) w))
  unfolding next
  next_clip w h e i = rw (lt-ltb k n h, e, ← i, add-one k)
