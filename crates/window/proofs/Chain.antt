-- The chain, clip by clip: each window is what the pass makes of the one before it (`window_after_lem`), and back to where the chain may begin nothing before
-- it is asked for (`chain_ready`). Sums only grow along a chain, so that what is too far stays too far. Assumes nothing.
use mathlib.Core.Path.{◌≡◌, refl, sym, ap, ◌∙◌}
use mathlib.Core.Bool.{Bool, true, false, not, cond, ◌&&◌, false≢true}
use mathlib.Core.List.{List}
use mathlib.Core.Option.{Option, some}
use mathlib.Core.Option as option
use Prim.Native.Nat.{ℕ, zero, suc, ◌+◌, ◌-◌, ◌≤◌, ◌<◌}
use native.Mathlib.Nat.{le_refl}
use native.Mathlib.Omega.{arith}
use lib.Dec.{leb}
use borrow.Author.Tests.{leb-false, lt-leb}
use Rattle.tables.specs.Refusal.{Answer, refused, given, or_refuse, no_range_before, window_too_far}
use Rattle.window.specs.Window.{Window, none, range, largest_end, is_sub_range, n_of, has_o, o_of, end_from, range_from, same_resource, range_start, window_of}
use Rattle.window.specs.After.{behind, window_after}
use Rattle.window.specs.Inside.Chain.{goes_on, chain_start}

-- a range from where the one before ends is the range behind it
range_behind : (start m n : ℕ) → range_from (some (start + m)) n ≡ behind (range_from (some start) m) n
range_behind start m n = go (leb (start + m) largest_end) refl
  where
    go : (b : Bool) → leb (start + m) largest_end ≡ b → range_from (some (start + m)) n ≡ behind (or_refuse b window_too_far 0 (given (range start (start + m)))) n
    go true e = refl
    go false e = rw (lt-leb ((start + m) + n) largest_end (omega (arith, leb-false (start + m) largest_end e)))

-- by cases: has it a range, has it an offset, is the resource the same, has the one before a range, does that one start anywhere
by_cases : (sub o same before : Bool) (start : Option ℕ) (offset n m : ℕ)
    → cond sub (range_from (cond o (some offset) (cond (before && same) (end_from start m) option.none)) n) (given none)
    ≡ cond sub (cond o (range_from (some offset) n) (cond same (behind (cond before (range_from start m) (given none)) n) (refused no_range_before 0))) (given none)
by_cases false o same before start offset n m = refl
by_cases true true same before start offset n m = refl
by_cases true false false false start offset n m = refl
by_cases true false false true start offset n m = refl
by_cases true false true false start offset n m = refl
by_cases true false true true option.none offset n m = refl
by_cases true false true true (some start) offset n m = range_behind start m n

-- the same where there is none before
by_first : (sub o : Bool) (offset n : ℕ)
    → cond sub (range_from (cond o (some offset) option.none) n) (given none) ≡ cond sub (cond o (range_from (some offset) n) (refused no_range_before 0)) (given none)
by_first false o offset n = refl
by_first true true offset n = refl
by_first true false offset n = refl

-- ---- where a chain may begin
module _ (t : List ℕ) where
  pub chain_stop : (k : ℕ) → goes_on t k ≡ false → chain_start t k ≡ k
  unfolding chain_start
  chain_stop zero e = refl
  chain_stop (suc k) e = rw e

  pub chain_back : (k : ℕ) → 0 < k → goes_on t k ≡ true → chain_start t k ≡ chain_start t (k - 1)
  unfolding chain_start
  chain_back zero h e = absurd (omega arith)
  chain_back (suc k) h e = let i : k ≡ suc k - 1 = omega arith in rw e (ap (chain_start t) i)

  pub chain_first : chain_start t 0 ≡ 0
  unfolding chain_start
  chain_first = refl

  pub chain_low : (k : ℕ) → chain_start t k ≤ k
  unfolding chain_start
  chain_low zero = le_refl 0
  chain_low (suc k) = go (goes_on t (suc k)) (chain_low k)
    where
      go : (b : Bool) → chain_start t k ≤ k → cond b (chain_start t k) (suc k) ≤ suc k
      go true h = omega arith
      go false h = le_refl (suc k)

-- ---- the windows
module _ (text t : List ℕ) where
  -- whatever is said to be before the first
  pub window_first : (before : Answer Window) → window_after text t 0 before ≡ window_of text t 0
  unfolding window_after window_of range_start
  window_first before = sym (by_first (is_sub_range t 0) (has_o t 0) (o_of t 0) (n_of t 0))

  pub window_after_lem : (k : ℕ) → window_after text t (suc k) (window_of text t k) ≡ window_of text t (suc k)
  unfolding window_after window_of range_start
  window_after_lem k = sym (by_cases (is_sub_range t (suc k)) (has_o t (suc k)) (same_resource text t k (suc k)) (is_sub_range t k) (range_start text t k) (o_of t (suc k)) (n_of t (suc k)) (n_of t k))

  -- what a pass has in hand before clip k
  abbrev pub window_before : ℕ → Answer Window
  window_before zero = given none
  window_before (suc k) = window_of text t k

  pub window_next : (k : ℕ) → window_after text t k (window_before k) ≡ window_of text t k
  window_next zero = window_first (given none)
  window_next (suc k) = window_after_lem k

  -- a clip that does not go on asks for nothing before it
  alone : (k : ℕ) → goes_on t k ≡ false → (a b : Answer Window) → window_after text t k a ≡ window_after text t k b
  unfolding window_after
  alone k e a b = go (is_sub_range t k) (has_o t k) e _ _ _
    where
      go : (sub o : Bool) → (sub && not o) ≡ false → (x y z : Answer Window) → cond sub (cond o x y) (given none) ≡ cond sub (cond o x z) (given none)
      go false o e x y z = refl
      go true true e x y z = refl
      go true false e x y z = absurd (false≢true (sym e))

  -- whatever is said to be before that clip
  pub chain_ready : (k : ℕ) (before : Answer Window) → window_after text t (chain_start t k) before ≡ window_of text t (chain_start t k)
  unfolding chain_start
  chain_ready zero before = window_first before
  chain_ready (suc k) before = go (goes_on t (suc k)) refl (chain_ready k before)
    where
      go : (b : Bool) → goes_on t (suc k) ≡ b → window_after text t (chain_start t k) before ≡ window_of text t (chain_start t k) → window_after text t (cond b (chain_start t k) (suc k)) before ≡ window_of text t (cond b (chain_start t k) (suc k))
      go true e ih = ih
      go false e ih = alone (suc k) e before (window_of text t k) ∙ window_after_lem k
