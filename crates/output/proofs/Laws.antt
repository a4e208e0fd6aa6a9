-- What waits after one byte, and what calls that put bytes say together: one behind the other they put as one. Assumes nothing.
use mathlib.Core.Path.{◌≡◌, refl, sym, ap, subst, ◌∙◌}
use mathlib.Core.List.{List, [], ◌∷◌, ◌++◌, append-nil, append_assoc}
use Prim.Native.Nat.{ℕ, ◌+◌, ◌-◌, ◌≤◌, ◌<◌}
use native.Mathlib.Omega.{arith}
use native.Mathlib.Numerals.{add-one}
use lib.ListN.{set, length, drop, take, get_or, length-take, length-append}
use lib.Seq.{take-suc, take-suc-set, take_all, take-append-add, take-append-le}
use borrow.Rule.Slice.PartMut.{put_mid, post_of}
use Rattle.std.proofs.Common.{length-take-le}
use borrow.Author.Tests.{lt-ltb, le-leb, lt-leb}
use Rattle.std.specs.Prelude.{Option, None, Some, ◌≢◌}
use Rattle.std.specs.declared.io.Error.{Error}
use Rattle.std.specs.Io.KnownBytes.{Appends, append_known}
use Rattle.output.specs.declared.Output.{Output}
use Rattle.output.specs.Waiting.{room, with_byte, with_bytes, part}
use Rattle.output.specs.Held.{waits, why, behind, held}
use Rattle.output.specs.Puts.{Puts, PutsFirst, Sends, SendsFirst}

-- a byte into a buffer that has room, and into a full one
module _ (l : List ℕ) (at b : ℕ) where
  pub byte_with_room : length l ≡ room → at < room → take (at + 1) (set l at b) ≡ with_bytes (take at l) (b ∷ [])
  unfolding with_byte with_bytes
  byte_with_room e h =
      let n : length (take at l) ≡ at = length-take at l ∙ (omega arith) in
      rw (n, lt-ltb at room h, add-one, take-suc-set l at b (omega arith))

  pub byte_when_full : length l ≡ room → room ≤ at → take 1 (set l 0 b) ≡ with_bytes (take at l) (b ∷ [])
  unfolding with_byte with_bytes
  byte_when_full e h =
      let n : length (take at l) ≡ room = length-take at l ∙ (omega arith) in
      rw (n) (take-suc-set l 0 b (omega arith))

bytes_append : (w a b : List ℕ) → with_bytes w (a ++ b) ≡ with_bytes (with_bytes w a) b
unfolding with_bytes
bytes_append w [] b = refl
bytes_append w (x ∷ a) b = bytes_append (with_byte w x) a b

-- bytes that fit wait whole
pub all_wait : (w bytes : List ℕ) → length w + length bytes ≤ room → with_bytes w bytes ≡ w ++ bytes
unfolding with_bytes with_byte
all_wait w [] h = sym (append-nil w)
all_wait w (b ∷ bytes) h =
    let n : length (w ++ (b ∷ [])) ≡ length w + 1 = length-append w (b ∷ []) in
    rw (lt-ltb (length w) room (omega arith)) (all_wait (w ++ (b ∷ [])) bytes (omega (arith, n)) ∙ append_assoc w (b ∷ []) bytes)

-- and so many more wait
pub more_wait : (w w' bytes : List ℕ) → w' ≡ with_bytes w bytes → length w + length bytes ≤ room → length w' ≡ length w + length bytes
more_wait w w' bytes e h = ap length (e ∙ all_wait w bytes h) ∙ length-append w bytes

-- a piece into a buffer that has room for it
pub piece_waits : (l piece : List ℕ) (at n k : ℕ) → at ≤ length l → length piece ≡ n → take (at + n) (put_mid at k l piece) ≡ take at l ++ piece
piece_waits l piece at n k h e =
    let whole : take n piece ≡ piece = take_all n piece (omega (arith, e)) in
    let all : take (length (take at l) + n) (put_mid at k l piece) ≡ take at l ++ take n (piece ++ post_of at k l) = take-append-add (take at l) (piece ++ post_of at k l) n in
    rw whole at (rw (take-append-le n piece (post_of at k l) (omega (arith, e))) at (rw (length-take-le at l h) at all))

-- ---- nothing, one call behind the other, and the same bytes in other words
module _ {W : Type 0} where
  pub puts_none : (s : Output W) → Puts s s []
  unfolding with_bytes
  puts_none s = record { waiting = refl; stays = λ h. refl; room_left = λ h. (omega arith, refl) }

  pub puts_then : {s r t : Output W} {xs ys : List ℕ} → Puts s r xs → Puts r t ys → Puts s t (xs ++ ys)
  puts_then {s} {r} {t} {xs} {ys} p q = record {
    waiting = q.waiting ∙ (ap (λ (w : List ℕ). with_bytes w ys) p.waiting ∙ sym (bytes_append (waits s) xs ys));
    stays = λ h. q.stays (λ e. h (sym (p.stays h) ∙ e)) ∙ p.stays h;
    room_left = λ h.
        let n = length-append xs ys in
        let u = p.room_left (omega (arith, n, h)) in
        let v = q.room_left (omega (arith, n, h, u.0)) in
        (omega (arith, n, u.0, v.0), v.1 ∙ u.1);
  }

  pub puts_as : {s r : Output W} {xs ys : List ℕ} → xs ≡ ys → Puts s r xs → Puts s r ys
  puts_as e p = rw e at p

  pub puts_piece : {s r : Output W} (piece : List ℕ) → length (waits s) + length piece ≤ room → waits r ≡ waits s ++ piece → why r ≡ why s → Puts s r piece
  puts_piece {s} {r} piece h e f = record {
    waiting = e ∙ sym (all_wait (waits s) piece h);
    stays = λ _. f;
    room_left = λ _. (ap length e ∙ length-append (waits s) piece, f);
  }

  -- ---- into an empty buffer
  pub puts_first : {s r : Output W} {bytes : List ℕ} → waits s ≡ [] → why s ≡ None → Puts s r bytes → PutsFirst r bytes
  puts_first {s} {r} {bytes} z n p =
      let none : length (waits s) ≡ 0 = ap length z in
      record {
        waiting = p.waiting ∙ ap (λ (w : List ℕ). with_bytes w bytes) z;
        room_left = λ h. let u = p.room_left (omega (arith, none, h)) in (omega (arith, none, u.0), u.1 ∙ n);
      }

-- ---- what the writer holds, and what waits behind it
-- one call behind the other
appends_then : (h₀ h₁ h₂ : Option (List ℕ)) (xs ys : List ℕ) → Appends h₀ h₁ xs → Appends h₁ h₂ ys → Appends h₀ h₂ (xs ++ ys)
appends_then None h₁ h₂ xs ys p q = tt
appends_then (Some a) None h₂ xs ys p q = absurd p
appends_then (Some a) (Some b) None xs ys p q = absurd q
appends_then (Some a) (Some b) (Some c) xs ys p q = rw (q, p) (append_assoc a xs ys)

appends_none : (h : Option (List ℕ)) → Appends h h []
appends_none None = tt
appends_none (Some a) = sym (append-nil a)

-- bytes wait that did not
pub appends_waiting : (h : Option (List ℕ)) (w w' bytes : List ℕ) → w' ≡ w ++ bytes → Appends (append_known h w) (append_known h w') bytes
appends_waiting None w w' bytes e = tt
appends_waiting (Some a) w w' bytes e = rw e (sym (append_assoc a w bytes))

-- what waited is written, and the bytes wait alone
appends_written : (h₀ h : Option (List ℕ)) (w bytes : List ℕ) → Appends h₀ h w → Appends (append_known h₀ w) (append_known h bytes) bytes
appends_written None h w bytes p = tt
appends_written (Some a) None w bytes p = absurd p
appends_written (Some a) (Some b) w bytes p = ap (λ (zs : List ℕ). zs ++ bytes) p

-- no failure after it is none before it
none_before : (b c : Option Error) → (b ≢ None → c ≡ b) → c ≡ None → b ≡ None
none_before None c f e = refl
none_before (Some x) c f e =
    let some : Some x ≢ None = λ h. cc h in
    absurd (some (sym (f some) ∙ e))

module _ {W : Type 0} (contents : W → Option (List ℕ)) where
  pub sends_none : (s : Output W) → Sends contents s s []
  sends_none s = record { grows = λ h. appends_none (held contents s) }

  pub sends_then : {s r t : Output W} {xs ys : List ℕ} → Puts r t ys → Sends contents s r xs → Sends contents r t ys → Sends contents s t (xs ++ ys)
  sends_then {s} {r} {t} {xs} {ys} u p q = record {
    grows = λ h. appends_then (held contents s) (held contents r) (held contents t) xs ys (p.grows (none_before (why r) (why t) u.stays h)) (q.grows h);
  }

  pub sends_as : {s r : Output W} {xs ys : List ℕ} → xs ≡ ys → Sends contents s r xs → Sends contents s r ys
  sends_as e p = rw e at p

-- a byte into a buffer that has room, and into a full one
module _ (known : Option (List ℕ)) (l : List ℕ) (at b : ℕ) where
  pub sends_with_room : at < length l → Appends (append_known known (take at l)) (append_known known (take (at + 1) (set l at b))) (b ∷ [])
  sends_with_room h = appends_waiting known (take at l) (take (at + 1) (set l at b)) (b ∷ []) (rw (add-one, take-suc-set l at b h))

  pub sends_when_full : (before : Option (List ℕ)) → length l ≤ at → 0 < length l → Appends before known l → Appends (append_known before (take at l)) (append_known known (take 1 (set l 0 b))) (b ∷ [])
  sends_when_full before h k p = rw (take_all at l h, take-suc-set l 0 b k) (appends_written before known l (b ∷ []) p)

-- ---- into an empty buffer, and all of it written
nothing_waits : (h₀ h : Option (List ℕ)) (bytes : List ℕ) → Appends (append_known h₀ []) h bytes → Appends h₀ h bytes
nothing_waits None h bytes p = tt
nothing_waits (Some a) None bytes p = absurd p
nothing_waits (Some a) (Some b) bytes p = rw (append-nil a) at p

module _ {W : Type 0} (contents : W → Option (List ℕ)) where
  -- what grows where nothing waited is what the writer holds
  pub held_empty : (o : Output W) (h : Option (List ℕ)) (bytes : List ℕ) → waits o ≡ [] → Appends (held contents o) h bytes → Appends (contents (behind o)) h bytes
  held_empty o h bytes z p =
      let P : List ℕ → Type 0 = λ w. Appends (append_known (contents (behind o)) w) h bytes in
      nothing_waits (contents (behind o)) h bytes (subst P z p)

  pub sends_first : {s r : Output W} {bytes : List ℕ} → waits s ≡ [] → Sends contents s r bytes → SendsFirst contents s r bytes
  sends_first {s} {r} {bytes} z p = record { grows = λ h. held_empty s (held contents r) bytes z (p.grows h) }

sent_whole : (h₀ h₁ h₂ : Option (List ℕ)) (w bytes : List ℕ) → Appends h₀ (append_known h₁ w) bytes → Appends h₁ h₂ w → Appends h₀ h₂ bytes
sent_whole None h₁ h₂ w bytes p q = tt
sent_whole (Some a) None h₂ w bytes p q = absurd p
sent_whole (Some a) (Some b) None w bytes p q = absurd q
sent_whole (Some a) (Some b) (Some c) w bytes p q = q ∙ p

-- bytes, and a flush that went
module _ {W : Type 0} (contents : W → Option (List ℕ)) where
  pub sent : {s r : Output W} (w : W) {bytes : List ℕ} → Sends contents s r bytes → why r ≡ None → Appends (contents (behind r)) (contents w) (waits r) → Appends (held contents s) (contents w) bytes
  sent {s} {r} w {bytes} p h q = sent_whole (held contents s) (contents (behind r)) (contents w) (waits r) bytes (p.grows h) q

-- ---- the bytes of a text, one after the other
pub bytes_more : (bs : List ℕ) (k : ℕ) → k < length bs → take k bs ++ (get_or bs k 0 ∷ []) ≡ take (k + 1) bs
bytes_more bs k h = sym (rw (add-one k) (take-suc bs k 0 h))

-- ---- bytes that are put piece by piece: a front of them, a byte, a front of what follows it
module _ (rest more front rest' : List ℕ) (b : ℕ) (e : rest ≡ b ∷ more) (f : more ≡ front ++ rest') where
  pub rest_smaller : length rest' < length rest
  rest_smaller = omega (arith, ap length e, ap length f, length-append front rest')

  pub front_grows : (bytes before : List ℕ) → bytes ≡ before ++ rest → bytes ≡ (before ++ (b ∷ front)) ++ rest'
  front_grows bytes before h = h ∙ ap (λ (xs : List ℕ). before ++ xs) (e ∙ ap (λ (xs : List ℕ). b ∷ xs) f) ∙ sym (append_assoc before (b ∷ front) rest')

pub front_whole : (bytes front rest : List ℕ) → bytes ≡ front ++ rest → length rest ≡ 0 → front ≡ bytes
front_whole bytes front [] h e = sym (h ∙ append-nil front)
front_whole bytes front (x ∷ rest) h e = absurd (omega (arith, e))

-- a part that is there, and two that are not
module _ (text : List ℕ) (start end : ℕ) where
  pub part_there : end ≤ length text → start ≤ end → take (end - start) (drop start text) ≡ part text start end
  unfolding part
  part_there h k = rw (le-leb end (length text) h, le-leb start end k)

  pub part_past_text : length text < end → [] ≡ part text start end
  unfolding part
  part_past_text h = rw (lt-leb end (length text) h)

  pub part_reversed : end ≤ length text → end < start → [] ≡ part text start end
  unfolding part
  part_reversed h k = rw (le-leb end (length text) h, lt-leb start end k)
