-- The clock's pass record by record: what is left of it, and that over a table which keeps its rules its records are those of the rule. Assumes nothing.
use Prim.Native.Nat.{ℕ, zero, suc, ◌+◌, ◌-◌, ◌*◌, ◌/◌, ◌≤◌, ◌<◌}
use mathlib.Core.Path.{◌≡◌, refl, ap}
use mathlib.Core.List.{List, [], ◌++◌}
use native.Mathlib.Nat.{zero-add}
use native.Mathlib.Omega.{arith}
use Rattle.tables.specs.Layout.{second}
use Rattle.tables.specs.Table.{listed}
use Rattle.tables.proofs.Listed.{listed_length}
use Rattle.clock.specs.Clock.{sum_lengths, moment_of, tick_of}
use Rattle.clock.proofs.Calls.{InTurn}
use Rattle.tables.specs.Refusal.{Refusal, refused, given}
use Rattle.starts.specs.Starts.{Cursor, done, next}
use Rattle.starts.proofs.Pass.{cursor_at, row_at, pass_steps}
use Rattle.cue_file.specs.Format.{version1, clip_bytes, clips_bytes, file_of}
use Rattle.cue_file.specs.Write.{cue_of, written}
use Rattle.cue_writer.specs.Inside.Pass.{row_bytes, step_bytes, step_after, pass_bytes, pass_file}
use Rattle.cue_writer.proofs.Weighed.{UrisIn, uri_length_lem}

-- ---- what is left of n steps after k of them
module _ (words : List ℕ) (c : Cursor) (n k : ℕ) where
  pub pass_left : k < n → pass_bytes words c (n - k) ≡ step_bytes words (next words c) ++ pass_bytes words (step_after c (next words c)) (n - (k + 1))
  unfolding pass_bytes
  pass_left h = let e : n - k ≡ suc (n - (k + 1)) = omega arith in rw e

  pub pass_over : n ≤ k → pass_bytes words c (n - k) ≡ []
  unfolding pass_bytes
  pass_over h = let e : n - k ≡ 0 = omega arith in rw e

-- where a step gives no clip, the steps left put nothing
module _ (words : List ℕ) (c : Cursor) where
  stuck : step_bytes words (next words c) ≡ [] → step_after c (next words c) ≡ c → (m : ℕ) → pass_bytes words c m ≡ []
  unfolding pass_bytes
  stuck e f zero = refl
  stuck e f (suc m) = rw (e, f) (stuck e f m)

  pub pass_done : (m : ℕ) → given done ≡ next words c → pass_bytes words c m ≡ []
  pass_done m e = stuck (rw (← e)) (rw (← e)) m

  pub pass_refused : (r : Refusal) (p m : ℕ) → refused r p ≡ next words c → pass_bytes words c m ≡ []
  pass_refused r p m e = stuck (rw (← e)) (rw (← e)) m

-- ---- at rate 1, in turn 0, a tick is a start's whole seconds
pub tick_second : (t : List ℕ) (n k : ℕ) → tick_of (moment_of t n 0 k) 1 ≡ sum_lengths t k / second
unfolding tick_of moment_of
tick_second t n k =
    let e : (0 * sum_lengths t n + sum_lengths t k) * 1 ≡ sum_lengths t k = omega arith in
    ap (λ (m : ℕ). m / second) e

module _ (text t : List ℕ) (n : ℕ) (g : InTurn t n 1 0) (s : UrisIn text t n) where
  row_record : (k : ℕ) → k < n → row_bytes t (row_at t n 1 0 k) ≡ clip_bytes version1 (cue_of text t k)
  unfolding row_bytes
  row_record k h = rw (tick_second t n k, uri_length_lem text t n s k h)

  records : (k m : ℕ) → k + m ≡ n → pass_bytes t (cursor_at t n 1 0 k) m ≡ clips_bytes version1 (listed (cue_of text t) k m)
  unfolding pass_bytes clips_bytes listed
  records k zero e = refl
  records k (suc m) e =
      let here = row_record k (omega arith) in
      let on = records (suc k) m (omega arith) in
      rw (pass_steps t n 1 0 g k (omega arith)) (λ i. here i ++ on i)

  -- the whole pass is the file
  pub pass_written : pass_file text t (cursor_at t n 1 0 0) ≡ written text t version1 n
  unfolding pass_file file_of
  pass_written = rw (listed_length (cue_of text t) 0 n, records 0 n (zero-add n))
