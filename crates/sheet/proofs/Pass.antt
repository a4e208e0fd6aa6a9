-- The lines of the clock's pass, before the first step, one step on, and after the last. Assumes nothing.
use Prim.Native.Nat.{ℕ, suc, ◌+◌, ◌-◌, ◌≤◌, ◌<◌}
use mathlib.Core.Path.{◌≡◌, sym, ap}
use mathlib.Core.List.{List, ◌++◌, append-nil, append_assoc}
use native.Mathlib.Omega.{arith}
use Rattle.starts.specs.Starts.{Cursor, next}
use Rattle.sheet.specs.Inside.Pass.{step_line, step_after, pass_lines}

-- no step is done
pub pass_starts : (text words : List ℕ) (c : Cursor) (n : ℕ) → pass_lines text words c (n - 0) ≡ pass_lines text words c n
pass_starts text words c n = ap (pass_lines text words c) (omega arith)

module _ (text words put : List ℕ) (c : Cursor) (n k : ℕ) where
  -- one step of n on: what is put and what is left are the whole
  pub pass_on : (d : Cursor) → k < n → d ≡ step_after c (next words c) → (put ++ step_line text words (next words c)) ++ pass_lines text words d (n - (k + 1)) ≡ put ++ pass_lines text words c (n - k)
  unfolding pass_lines
  pass_on d h e =
      let q : n - k ≡ suc (n - (k + 1)) = omega arith in
      rw (q, e, append_assoc)

  -- no step is left
  pub pass_ends : n ≤ k → put ≡ put ++ pass_lines text words c (n - k)
  unfolding pass_lines
  pass_ends h =
      let q : n - k ≡ 0 = omega arith in
      rw q (sym (append-nil put))
