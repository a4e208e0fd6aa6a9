-- What is left of a room: nothing taken, one piece after another, records one by one. Assumes nothing.
use mathlib.Core.Path.{◌≡◌, refl, ap, sym, ◌∙◌}
use mathlib.Core.Bool.{Bool, true, false, cond}
use mathlib.Core.List.{List, [], ◌∷◌}
use Prim.Native.Nat.{ℕ, ◌+◌, ◌-◌, ◌≤◌, ◌<◌}
use native.Mathlib.Nat.{sub-zero}
use native.Mathlib.Omega.{arith}
use lib.Dec.{leb}
use borrow.Author.Tests.{le-leb, lt-leb, leb-true, leb-false}
use Rattle.tables.specs.Table.{listed}
use Rattle.tables.proofs.Listed.{listed_left, listed_over}
use Rattle.std.specs.Prelude.{is_some, Option as Perhaps, None, Some}
use Rattle.measure.specs.Inside.Room.{Room, left, short, room_for, room_of, Leaves}

module _ (room n : ℕ) where
  pub room_fits : n ≤ room → room_for room n ≡ left (room - n)
  unfolding room_for
  room_fits h = rw (le-leb n room h)

  pub room_short : room < n → room_for room n ≡ short
  unfolding room_for
  room_short h = rw (lt-leb n room h)

  -- and the other way
  pub fits_room : {m : ℕ} → room_for room n ≡ left m → (n ≤ room) × (m ≡ room - n)
  unfolding room_for
  fits_room {m} e = go (leb n room) refl e
    where
      go : (b : Bool) → leb n room ≡ b → cond b (left (room - n)) short ≡ left m → (n ≤ room) × (m ≡ room - n)
      go true q e = (leb-true n room q, cc)
      go false q e = let z : ◌≡◌ {A = ℕ} 0 1 = cc in absurd (omega arith)

  pub short_room : room_for room n ≡ short → room < n
  unfolding room_for
  short_room e = go (leb n room) refl e
    where
      go : (b : Bool) → leb n room ≡ b → cond b (left (room - n)) short ≡ short → room < n
      go true q e = let z : ◌≡◌ {A = ℕ} 0 1 = cc in absurd (omega arith)
      go false q e = leb-false n room q

pub room_none : (room : ℕ) → left room ≡ room_for room 0
room_none room = sym (room_fits room 0 (omega arith) ∙ ap left (sub-zero room))

-- one piece after another
module _ (room a b : ℕ) where
  pub room_then : {m : ℕ} → (a ≤ room) × (m ≡ room - a) → room_for m b ≡ room_for room (a + b)
  room_then {m} f = go (leb b m) refl
    where
      go : (c : Bool) → leb b m ≡ c → room_for m b ≡ room_for room (a + b)
      go true q =
          let k : b ≤ m = leb-true b m q in
          room_fits m b k ∙ ap left (omega (arith, f)) ∙ sym (room_fits room (a + b) (omega (arith, f)))
      go false q =
          let k : m < b = leb-false b m q in
          room_short m b k ∙ sym (room_short room (a + b) (omega (arith, f)))

  pub room_then_short : room < a → short ≡ room_for room (a + b)
  room_then_short l = sym (room_short room (a + b) (omega arith))

-- ---- what is left at least: behind a piece that takes no more than `most`
pub leaves_then : (room piece most n : ℕ) {rest : ℕ} (r : Room) → piece ≤ most → (most ≤ room) × (rest ≡ room - most) → Leaves rest n r → Leaves room (piece + n) r
leaves_then room piece most n (left m) p l h = omega arith
leaves_then room piece most n short p l h = tt

pub leaves_exactly : (room n : ℕ) (r : Room) → r ≡ room_for room n → Leaves room n r
leaves_exactly room n (left m) e = omega (arith, fits_room room n (sym e))
leaves_exactly room n short e = tt

pub leaves_some : (room n : ℕ) (r : Perhaps ℕ) → Leaves room n (room_of r) → is_some r ≡ true → n ≤ room
leaves_some room n (Some m) h e = omega arith
leaves_some room n None h e = cc

-- ---- records one by one: what those from k on take of what is left is what all of them take of the room
pub record Measuring {A : Type 0} (at : ℕ → A) (long : List A → ℕ) (room whole end rest k : ℕ) : Type 0 where
  pub same : room_for rest (long (listed at k (end - k))) ≡ room_for room whole
  pub turn : k ≤ end

module _ {A : Type 0} {at : ℕ → A} {long : List A → ℕ} {room whole end rest k : ℕ} (h : Measuring at long room whole end rest k) where
  pub measure_end : long [] ≡ 0 → end ≤ k → left rest ≡ room_for room whole
  measure_end z l = room_none rest ∙ ap (room_for rest) (sym z) ∙ ap (λ (xs : List A). room_for rest (long xs)) (sym (listed_over at k end l)) ∙ h.same

  -- record k takes n
  module _ (n : ℕ) (l : k < end) (e : (xs : List A) → long (at k ∷ xs) ≡ n + long xs) where
    one_more : room_for rest (n + long (listed at (k + 1) (end - (k + 1)))) ≡ room_for room whole
    one_more = ap (room_for rest) (sym (e (listed at (k + 1) (end - (k + 1))))) ∙ ap (λ (xs : List A). room_for rest (long xs)) (sym (listed_left at k end l)) ∙ h.same

    pub measure_more : {m : ℕ} → (n ≤ rest) × (m ≡ rest - n) → Measuring at long room whole end m (k + 1)
    measure_more q = record { same = room_then rest n _ q ∙ one_more; turn = omega arith }

    pub measure_short : rest < n → short ≡ room_for room whole
    measure_short q = room_then_short rest n _ q ∙ one_more
