-- The windows of all clips in one pass: what opens the pass, and what each step gives. Assumes nothing.
use Rattle.std.specs.Prelude.{cond, List, ℕ, suc, ltb}
use Rattle.tables.specs.Refusal.{Answer, given, or_refuse, broken_table}
use Rattle.window.specs.Window.{Window, none, clip_keeps, over_clips}
use Rattle.window.specs.After.{window_after}

-- where a pass stands: count, next clip, and the window of the one before it
pub data Cursor : Type 0 where
  cursor : ℕ → ℕ → Answer Window → Cursor

-- a clip's number, and its window
pub data Row : Type 0 where
  row : ℕ → Answer Window → Row

pub data Step : Type 0 where
  done : Step
  clip : Row → Cursor → Step

-- 1, 9, else the cursor before the first clip
unfoldable pub windows : List ℕ → List ℕ → ℕ → Answer Cursor
windows text t n = over_clips text t n (given (cursor n 0 (given none)))

-- after the last clip the pass is done; 9, where the words can't be those that it was opened on; else the clip, and the cursor after it
unfoldable pub next : List ℕ → List ℕ → Cursor → Answer Step
next text t (cursor n k before) =
    cond (ltb k n)
    (or_refuse (clip_keeps text t k) broken_table 0
    (given (clip (row k (window_after text t k before)) (cursor n (suc k) (window_after text t k before)))))
    (given done)
