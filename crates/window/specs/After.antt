-- A clip's window by that of the clip before it, as a pass over the clips has it in hand. `window_after_lem` says that over the windows of `Window` it is the
-- chain's. Assumes nothing.
use Rattle.std.specs.Prelude.{Bool, false, cond, List, ℕ, zero, suc}
use Rattle.std.proofs.Math.Option.{some}
use Rattle.tables.specs.Refusal.{Answer, refused, given, no_range_before}
use Rattle.window.specs.Window.{Window, none, range, range_from, is_sub_range, n_of, has_o, o_of, same_resource}

-- so many bytes behind a window: the refusal of the one before is its own, and behind a clip without a range nothing starts
abbrev pub behind : Answer Window → ℕ → Answer Window
behind (refused r p) n = refused r p
behind (given none) n = refused no_range_before 0
behind (given (range start end)) n = range_from (some end) n

module _ (text t : List ℕ) where
  -- a clip before it has the same resource; before the first there is none
  abbrev pub follows : ℕ → Bool
  follows zero = false
  follows (suc k) = same_resource text t k (suc k)

  unfoldable pub window_after : ℕ → Answer Window → Answer Window
  window_after clip before =
      cond (is_sub_range t clip)
      (cond (has_o t clip)
      (range_from (some (o_of t clip)) (n_of t clip))
      (cond (follows clip) (behind before (n_of t clip)) (refused no_range_before 0)))
      (given none)
