-- The pass over all starts of a turn: its k-th step gives what `start_ns` and `start_tick` answer of clip k, and after the last it is done.
-- Rests on the laws of the calls. Assumes nothing.
use mathlib.Core.Path.{◌≡◌, refl, sym, ◌∙◌}
use mathlib.Core.Bool.{Bool, true, false, and-eq-true_iff}
use mathlib.Core.List.{List}
use Prim.Native.Nat.{ℕ, suc, ◌+◌, ◌-◌, ◌*◌, ◌≤◌, ◌<◌}
use native.Mathlib.Nat.{le_refl}
use native.Mathlib.Numerals.{add-one}
use native.Mathlib.Omega.{arith}
use lib.Dec.{leb}
use borrow.Author.Tests.{le-leb, lt-leb, leb-true, leb-false, lt-ltb, le-ltb}
use Rattle.tables.specs.Refusal.{refused, given, broken_table}
use Rattle.clock.specs.Clock.{largest_total, largest_rate, last_turn, length_of, sum_lengths, moment_of, tick_of}
use Rattle.clock.specs.Calls.{start_ns, start_tick}
use Rattle.starts.specs.Starts.{Cursor, cursor, Row, row, done, clip, starts, in_limits, next}
use Rattle.clock.proofs.Lengths.{sum_mono}
use Rattle.clock.proofs.Calls.{InTurn, turn_front, start_ns_given, start_tick_given}

-- ---- the pass
-- the cursor before clip k, and that clip's row
abbrev pub cursor_at : List ℕ → ℕ → ℕ → ℕ → ℕ → Cursor
cursor_at t n rate turn k = cursor n rate turn (sum_lengths t n) k (sum_lengths t k)

abbrev pub row_at : List ℕ → ℕ → ℕ → ℕ → ℕ → Row
row_at t n rate turn k = row k (sum_lengths t k) (length_of t k) (tick_of (moment_of t n turn k) rate)

module _ (t : List ℕ) (n rate turn : ℕ) (g : InTurn t n rate turn) where
  -- it opens before clip 0
  pub pass_opens : starts t n rate turn ≡ given (cursor_at t n rate turn 0)
  unfolding starts sum_lengths
  pass_opens = (turn_front t n rate turn).on _ g

  -- it goes from each clip to the next
  pub pass_steps : (k : ℕ) → k < n → next t (cursor_at t n rate turn k) ≡ given (clip (row_at t n rate turn k) (cursor_at t n rate turn (suc k)))
  unfolding next in_limits moment_of sum_lengths
  pass_steps k h =
      let room : sum_lengths t k + length_of t k ≤ sum_lengths t n = sum_mono t (suc k) n h in
      rw (lt-ltb k n h, le-leb rate largest_rate g.rate_high, le-leb turn last_turn g.turn_high, le-leb (sum_lengths t n) largest_total g.table.short, le-leb (sum_lengths t k + length_of t k) (sum_lengths t n) room)

  -- and ends after the last
  pub pass_ends : next t (cursor_at t n rate turn n) ≡ given done
  unfolding next
  pass_ends = rw (le-ltb n n (le_refl n))

  -- what it gives of clip k is what `start_ns` and `start_tick` answer
  pub pass_answers : (k start tick : ℕ) → k < n → start_ns t n k ≡ given start → start_tick t n rate turn k ≡ given tick
      → next t (cursor_at t n rate turn k) ≡ given (clip (row k start (length_of t k) tick) (cursor_at t n rate turn (suc k)))
  pass_answers k start tick h p q =
      let s : given (sum_lengths t k) ≡ given start = sym (start_ns_given t n k g.table h) ∙ p in
      let x : given (tick_of (moment_of t n turn k) rate) ≡ given tick = sym (start_tick_given t n rate turn k g h) ∙ q in
      cc (pass_steps k h)

-- ---- one step, from any cursor
module _ (n rate turn total k before length : ℕ) where
  pub record Limits : Type 0 where
    pub rate_high : rate ≤ largest_rate
    pub turn_high : turn ≤ last_turn
    pub total_high : total ≤ largest_total
    pub room : before + length ≤ total

  pub limits_hold : in_limits (cursor n rate turn total k before) length ≡ true → Limits
  unfolding in_limits
  limits_hold e =
      let p = (and-eq-true_iff (leb rate largest_rate) _).0 e in
      let q = (and-eq-true_iff (leb turn last_turn) _).0 p.1 in
      let r = (and-eq-true_iff (leb total largest_total) _).0 q.1 in
      record {
        rate_high = leb-true rate largest_rate p.0;
        turn_high = leb-true turn last_turn q.0;
        total_high = leb-true total largest_total r.0;
        room = leb-true (before + length) total r.1;
      }

  pub limits_past : (Limits → ⊥) → in_limits (cursor n rate turn total k before) length ≡ false
  limits_past h = go (in_limits (cursor n rate turn total k before) length) refl
    where
      go : (b : Bool) → in_limits (cursor n rate turn total k before) length ≡ b → b ≡ false
      go true e = absurd (h (limits_hold e))
      go false e = refl

  -- past the first three, the room decides
  pub limits_room : rate ≤ largest_rate → turn ≤ last_turn → total ≤ largest_total → in_limits (cursor n rate turn total k before) length ≡ leb (before + length) total
  unfolding in_limits
  limits_room r u w = rw (le-leb rate largest_rate r, le-leb turn last_turn u, le-leb total largest_total w)

-- the room is measured without the sum, which may overflow
pub room_left : (total before length : ℕ) → before ≤ total → leb length (total - before) ≡ leb (before + length) total
room_left total before length h = go (leb length (total - before)) refl
  where
    go : (b : Bool) → leb length (total - before) ≡ b → b ≡ leb (before + length) total
    go true e = sym (le-leb (before + length) total (omega (arith, leb-true length (total - before) e)))
    go false e = sym (lt-leb (before + length) total (omega (arith, leb-false length (total - before) e)))

-- what the code has in hand at each of its three ways out
module _ (t : List ℕ) (n rate turn total k before : ℕ) where
  pub next_done : n ≤ k → next t (cursor n rate turn total k before) ≡ given done
  unfolding next
  next_done h = rw (le-ltb k n h)

  pub next_9 : (length : ℕ) → k < n → length ≡ length_of t k → in_limits (cursor n rate turn total k before) length ≡ false
      → next t (cursor n rate turn total k before) ≡ refused broken_table 0
  unfolding next
  next_9 length h e l = rw (lt-ltb k n h, ← e, l)

  pub next_clip : (length tick : ℕ) → k < n → length ≡ length_of t k → in_limits (cursor n rate turn total k before) length ≡ true → tick ≡ tick_of (turn * total + before) rate
      → next t (cursor n rate turn total k before) ≡ given (clip (row k before length tick) (cursor n rate turn total (k + 1) (before + length)))
  unfolding next
  next_clip length tick h e l q = rw (lt-ltb k n h, ← e, l, q, add-one k)
