-- Bytes that fit are characters: where a character begins and what follows fits, a character is there and the next begins behind it. A place is told by the one
-- three bytes before it, and other places by equations, so that none needs a sum of its own. Assumes nothing.
use Prim.Native.Nat.{ℕ, zero, suc, ◌+◌, ◌-◌, ◌≤◌, ◌<◌}
use mathlib.Core.Path.{◌≡◌, refl, sym, ◌∙◌, ap, subst}
use mathlib.Core.Logic.{◌⊎◌, inl, inr}
use mathlib.Core.Bool.{Bool, true, false, ◌&&◌, cond, false≢true}
use mathlib.Core.List.{List, [], ◌∷◌, ◌++◌}
use native.Mathlib.Nat.{le_refl}
use native.Mathlib.Decide.{dec_le}
use native.Mathlib.Omega.{arith}
use lib.Dec.{leb, ltb}
use lib.ListN.{length, get_or, take, drop}
use borrow.Author.Tests.{leb-true, leb-false, le-leb, lt-leb, ltb-true}
use Rattle.text.specs.Why.{missing_byte}
use Rattle.text.specs.Nom.{fail, ok, when, is_ascii, run_end}
use Rattle.text.specs.Utf8.{◌to◌, Row, UTF8-tail, UTF8-char, octet, octets, one_of, utf8_char, utf8_end}
use Rattle.text.proofs.Laws.{and_left, and_right, run_stop, run_step, run_from, run_within}
use Rattle.text.proofs.Utf8.{above, octet_there, row_decides, row_fails, ascii, end_on}
use Rattle.text.proofs.Stretches.{All, join}
use Rattle.characters.specs.Inside.Fits.{fits_at, last_start}
use Rattle.characters.proofs.Byte.{Tail, Fits, fits_says, ascii_fits}

-- ---- a row by its first byte
-- rows that begin below k
abbrev below : ℕ → List Row → Bool
below k [] = true
below k ([] ∷ rs) = false
below k ((lo to hi ∷ os) ∷ rs) = ltb hi k && below k rs

module _ (text : List ℕ) (at : ℕ) where
  octet_above : (lo hi : ℕ) → hi < get_or text at 0 → octet (lo to hi) text at ≡ fail missing_byte
  unfolding octet
  octet_above lo hi h = rw (lt-leb (get_or text at 0) hi h) (go (ltb at (length text)) (leb lo (get_or text at 0)))
    where
      go : (here b : Bool) → when (here && (b && false)) missing_byte (ok (tt {0}) (at + 1)) ≡ fail missing_byte
      go true true = refl
      go true false = refl
      go false b = refl

  rows_past : (k : ℕ) (rs qs : List Row) → below k rs ≡ true → k ≤ get_or text at 0 → one_of qs text at ≡ one_of (rs ++ qs) text at
  rows_past k [] qs h l = refl
  rows_past k ([] ∷ rs) qs h l = absurd (false≢true h)
  rows_past k ((lo to hi ∷ os) ∷ rs) qs h l =
      let under = ltb-true hi k (and_left (ltb hi k) (below k rs) h) in
      rows_past k rs qs (and_right (ltb hi k) (below k rs) h) l ∙ row_fails text at (lo to hi) os (rs ++ qs) (octet_above lo hi (omega (arith, under)))

  -- the row at place k of the table is there
  char_in : (k lo hi : ℕ) (os : Row) (j n : ℕ) → j ≡ at + 1 → take k UTF8-char ++ ((lo to hi ∷ os) ∷ drop (k + 1) UTF8-char) ≡ UTF8-char → below lo (take k UTF8-char) ≡ true
      → above hi (drop (k + 1) UTF8-char) ≡ true → at < length text → lo ≤ get_or text at 0 → get_or text at 0 ≤ hi → octets os text j ≡ ok tt n
      → utf8_char text at ≡ ok tt n
  unfolding utf8_char
  char_in k lo hi os j n z e b q h l m f =
      let first = octet_there (lo to hi) text at h (rw (le-leb lo (get_or text at 0) l, le-leb (get_or text at 0) hi m)) in
      ap (λ rs. one_of rs text at) (sym e)
      ∙ sym (rows_past lo (take k UTF8-char) ((lo to hi ∷ os) ∷ drop (k + 1) UTF8-char) b l)
      ∙ sym (row_decides text at lo hi os (drop (k + 1) UTF8-char) true n q first (sym (rw z at f)))

module _ (text : List ℕ) where
  -- a byte of a row, and those behind it
  then : (lo hi : ℕ) (os : Row) (i j n : ℕ) → j ≡ i + 1 → i < length text → lo ≤ get_or text i 0 → get_or text i 0 ≤ hi → octets os text j ≡ ok tt n
      → octets (lo to hi ∷ os) text i ≡ ok tt n
  unfolding octets
  then lo hi os i j n e h l m f = rw (octet_there (lo to hi) text i h (rw (le-leb lo (get_or text i 0) l, le-leb (get_or text i 0) hi m)), ← e) f

  none : (i : ℕ) → octets [] text i ≡ ok tt i
  unfolding octets
  none i = refl

  -- ---- places
  -- the byte behind the three at i fits
  abbrev pub FitsAt : ℕ → Type 0
  FitsAt i = (j k l : ℕ) → j ≡ i + 1 → k ≡ i + 2 → l ≡ i + 3 → Fits (get_or text i 0) (get_or text j 0) (get_or text k 0) (get_or text l 0)

  -- a character begins behind the three at i
  abbrev pub Begins : ℕ → Type 0
  Begins i = (j k : ℕ) → j ≡ i + 1 → k ≡ i + 2 → (get_or text i 0 < 0xF0) × (get_or text j 0 < 0xE0) × (get_or text k 0 < 0xC2)

  begins_by : (i j k : ℕ) → j ≡ i + 1 → k ≡ i + 2 → get_or text i 0 < 0xF0 → get_or text j 0 < 0xE0 → get_or text k 0 < 0xC2 → Begins i
  begins_by i j k p q f g h j' k' p' q' =
      let u : j ≡ j' = omega arith in
      let v : k ≡ k' = omega arith in
      (f, subst (λ x. get_or text x 0 < 0xE0) u g, subst (λ x. get_or text x 0 < 0xC2) v h)

  pub fits_at_lem : (i : ℕ) → fits_at text i ≡ true → FitsAt i
  fits_at_lem i e j k l p q r = rw (p, q, r) (fits_says _ _ _ _ e)

  -- ---- a character, and where the next begins
  record Next (w v : ℕ) : Type 0 where
    behind : ℕ
    more : w < behind
    within : behind ≤ v
    starts : Begins behind
    same : utf8_end text (w + 3) ≡ utf8_end text (behind + 3)

  module _ (w v : ℕ) (b : Begins w) (e : Begins v) (h : w < v) (room : v + 3 ≤ length text) (f : All FitsAt w v) where
    next : (u n : ℕ) → n ≡ u + 3 → w < u → u ≤ v → Begins u → utf8_char text (w + 3) ≡ ok tt n → Next w v
    next u n z m l s c = record { behind = u; more = m; within = l; starts = s; same = end_on text (w + 3) n c ∙ ap (utf8_end text) z }

    before : (get_or text w 0 < 0xF0) × (get_or text (w + 1) 0 < 0xE0) × (get_or text (w + 2) 0 < 0xC2)
    before = b (w + 1) (w + 2) refl refl

    one : get_or text (w + 3) 0 < 0x80 → Next w v
    one l =
        next (w + 1) (w + 3 + 1) (omega arith) (omega arith) (omega arith)
        (begins_by (w + 1) (w + 2) (w + 3) (omega arith) (omega arith) (omega (arith, before.1)) (omega (arith, before.2)) (omega arith))
        (ascii text (w + 3) (omega arith) l)

    -- a first byte is not the last one before v, nor is one that wants two tails the last but one
    module _ (x : 0xC2 ≤ get_or text (w + 3) 0) where
      room2 : w + 1 < v
      room2 = go (dec_le (w + 2) v)
        where
          go : Dec (w + 2 ≤ v) → w + 1 < v
          go (yes l) = omega arith
          go (no l) = absurd (omega (arith, (e (w + 2) (w + 3) (omega arith) (omega arith)).2))

      tail2 : Fits (get_or text (w + 1) 0) (get_or text (w + 2) 0) (get_or text (w + 3) 0) (get_or text (w + 4) 0)
      tail2 = f (w + 1) (omega arith) room2 (w + 2) (w + 3) (w + 4) (omega arith) (omega arith) (omega arith)

      two : get_or text (w + 3) 0 ≤ 0xDF → Next w v
      two l =
          let y = tail2.second x in
          next (w + 2) (w + 5) (omega arith) (omega arith) (omega (arith, room2))
          (begins_by (w + 2) (w + 3) (w + 4) (omega arith) (omega arith) (omega (arith, before.2)) (omega arith) (omega (arith, y.1)))
          (char_in text (w + 3) 1 0xC2 0xDF (UTF8-tail ∷ []) (w + 4) (w + 5) (omega arith) refl refl refl (omega arith) x l
          (then 0x80 0xBF [] (w + 4) (w + 5) (w + 5) (omega arith) (omega (arith, room2)) y.0 y.1 (none (w + 5))))

    module _ (x : 0xE0 ≤ get_or text (w + 3) 0) where
      room3 : w + 2 < v
      room3 = go (dec_le (w + 3) v)
        where
          go : Dec (w + 3 ≤ v) → w + 2 < v
          go (yes l) = omega arith
          go (no l) = absurd (omega (arith, room2 (omega arith), (e (w + 3) (w + 4) (omega (arith, room2 (omega arith))) (omega (arith, room2 (omega arith)))).1))

      y : Tail (get_or text (w + 4) 0)
      y = (tail2 (omega arith)).second (omega arith)

      z : Tail (get_or text (w + 5) 0)
      z = (f (w + 2) (omega arith) room3 (w + 3) (w + 4) (w + 5) (omega arith) (omega arith) (omega arith)).third x

      -- the second byte within lo and hi, and the third
      last2 : (lo hi : ℕ) → lo ≤ get_or text (w + 4) 0 → get_or text (w + 4) 0 ≤ hi → octets (lo to hi ∷ UTF8-tail ∷ []) text (w + 4) ≡ ok tt (w + 6)
      last2 lo hi l m =
          then lo hi (UTF8-tail ∷ []) (w + 4) (w + 5) (w + 6) (omega arith) (omega (arith, room3)) l m
          (then 0x80 0xBF [] (w + 5) (w + 6) (w + 6) (omega arith) (omega (arith, room3)) z.0 z.1 (none (w + 6)))

      char3 : get_or text (w + 3) 0 ≤ 0xEF → utf8_char text (w + 3) ≡ ok tt (w + 6)
      char3 l = go (dec_le 0xE1 (get_or text (w + 3) 0)) (dec_le 0xED (get_or text (w + 3) 0)) (dec_le 0xEE (get_or text (w + 3) 0))
        where
          go : Dec (0xE1 ≤ get_or text (w + 3) 0) → Dec (0xED ≤ get_or text (w + 3) 0) → Dec (0xEE ≤ get_or text (w + 3) 0) → utf8_char text (w + 3) ≡ ok tt (w + 6)
          go (no m) _ _ =
              char_in text (w + 3) 2 0xE0 0xE0 (0xA0 to 0xBF ∷ UTF8-tail ∷ []) (w + 4) (w + 6) (omega arith) refl refl refl (omega arith) x (omega arith)
              (last2 0xA0 0xBF ((tail2 (omega arith)).after_e0 (omega arith)) y.1)
          go (yes m) (no n) _ =
              char_in text (w + 3) 3 0xE1 0xEC (UTF8-tail ∷ UTF8-tail ∷ []) (w + 4) (w + 6) (omega arith) refl refl refl (omega arith) m (omega arith)
              (last2 0x80 0xBF y.0 y.1)
          go (yes m) (yes n) (no o) =
              char_in text (w + 3) 4 0xED 0xED (0x80 to 0x9F ∷ UTF8-tail ∷ []) (w + 4) (w + 6) (omega arith) refl refl refl (omega arith) n (omega arith)
              (last2 0x80 0x9F y.0 ((tail2 (omega arith)).after_ed (omega arith)))
          go (yes m) (yes n) (yes o) =
              char_in text (w + 3) 5 0xEE 0xEF (UTF8-tail ∷ UTF8-tail ∷ []) (w + 4) (w + 6) (omega arith) refl refl refl (omega arith) o l
              (last2 0x80 0xBF y.0 y.1)

      three : get_or text (w + 3) 0 ≤ 0xEF → Next w v
      three l =
          next (w + 3) (w + 6) (omega arith) (omega arith) (omega (arith, room3))
          (begins_by (w + 3) (w + 4) (w + 5) (omega arith) (omega arith) (omega arith) (omega (arith, y.1)) (omega (arith, z.1)))
          (char3 l)

    module _ (x : 0xF0 ≤ get_or text (w + 3) 0) (l : get_or text (w + 3) 0 ≤ 0xF4) where
      room4 : w + 3 < v
      room4 = go (dec_le (w + 4) v)
        where
          go : Dec (w + 4 ≤ v) → w + 3 < v
          go (yes m) = omega arith
          go (no m) =
              absurd
              (omega (arith, room3 (omega arith), subst (λ i. get_or text i 0 < 0xF0) (last_place m) (e (v + 1) (v + 2) refl refl).0))
            where
              last_place : (w + 4 ≤ v → ⊥) → v ≡ w + 3
              last_place m = omega (arith, room3 (omega arith))

      u : Tail (get_or text (w + 6) 0)
      u = (f (w + 3) (omega arith) room4 (w + 4) (w + 5) (w + 6) (omega arith) (omega arith) (omega arith)).fourth x

      last3 : (lo hi : ℕ) → lo ≤ get_or text (w + 4) 0 → get_or text (w + 4) 0 ≤ hi → octets (lo to hi ∷ UTF8-tail ∷ UTF8-tail ∷ []) text (w + 4) ≡ ok tt (w + 7)
      last3 lo hi m n =
          let t = z (omega arith) in
          then lo hi (UTF8-tail ∷ UTF8-tail ∷ []) (w + 4) (w + 5) (w + 7) (omega arith) (omega (arith, room4)) m n
          (then 0x80 0xBF (UTF8-tail ∷ []) (w + 5) (w + 6) (w + 7) (omega arith) (omega (arith, room4)) t.0 t.1
          (then 0x80 0xBF [] (w + 6) (w + 7) (w + 7) (omega arith) (omega (arith, room4)) u.0 u.1 (none (w + 7))))

      char4 : utf8_char text (w + 3) ≡ ok tt (w + 7)
      char4 = go (dec_le 0xF1 (get_or text (w + 3) 0)) (dec_le 0xF4 (get_or text (w + 3) 0))
        where
          go : Dec (0xF1 ≤ get_or text (w + 3) 0) → Dec (0xF4 ≤ get_or text (w + 3) 0) → utf8_char text (w + 3) ≡ ok tt (w + 7)
          go (no m) _ =
              char_in text (w + 3) 6 0xF0 0xF0 (0x90 to 0xBF ∷ UTF8-tail ∷ UTF8-tail ∷ []) (w + 4) (w + 7) (omega arith) refl refl refl (omega arith) x (omega arith)
              (last3 0x90 0xBF ((tail2 (omega arith)).after_f0 (omega arith)) (y (omega arith)).1)
          go (yes m) (no n) =
              char_in text (w + 3) 7 0xF1 0xF3 (UTF8-tail ∷ UTF8-tail ∷ UTF8-tail ∷ []) (w + 4) (w + 7) (omega arith) refl refl refl (omega arith) m (omega arith)
              (last3 0x80 0xBF (y (omega arith)).0 (y (omega arith)).1)
          go (yes m) (yes n) =
              char_in text (w + 3) 8 0xF4 0xF4 (0x80 to 0x8F ∷ UTF8-tail ∷ UTF8-tail ∷ []) (w + 4) (w + 7) (omega arith) refl refl refl (omega arith) n l
              (last3 0x80 0x8F (y (omega arith)).0 ((tail2 (omega arith)).after_f4 (omega arith)))

      four : Next w v
      four =
          next (w + 4) (w + 7) (omega arith) (omega arith) (omega (arith, room4))
          (begins_by (w + 4) (w + 5) (w + 6) (omega arith) (omega arith) (omega (arith, (y (omega arith)).1)) (omega (arith, (z (omega arith)).1)) (omega (arith, u.1)))
          char4

    a_char : Next w v
    a_char =
        first
        ((f w (le_refl w) h (w + 1) (w + 2) (w + 3) refl refl refl).first before.2 before.1 before.0)
        (dec_le 0xE0 (get_or text (w + 3) 0))
        (dec_le 0xF0 (get_or text (w + 3) 0))
      where
        first : (get_or text (w + 3) 0 < 0x80) ⊎ ((0xC2 ≤ get_or text (w + 3) 0) × (get_or text (w + 3) 0 ≤ 0xF4)) → Dec (0xE0 ≤ get_or text (w + 3) 0)
            → Dec (0xF0 ≤ get_or text (w + 3) 0) → Next w v
        first (inl l) _ _ = one l
        first (inr l) (no m) _ = two l.0 (omega arith)
        first (inr l) (yes m) (no n) = three m (omega arith)
        first (inr l) (yes m) (yes n) = four n l.1

  -- ---- character after character
  turns : (k w v : ℕ) → v - w ≤ k → Begins w → Begins v → w ≤ v → v + 3 ≤ length text → All FitsAt w v → utf8_end text (w + 3) ≡ utf8_end text (v + 3)
  turns zero w v l b e h room f = let z : w ≡ v = omega arith in ap (λ i. utf8_end text (i + 3)) z
  turns (suc k) w v l b e h room f = go (turns k) (dec_le v w)
    where
      go : ((w v : ℕ) → v - w ≤ k → Begins w → Begins v → w ≤ v → v + 3 ≤ length text → All FitsAt w v → utf8_end text (w + 3) ≡ utf8_end text (v + 3)) → Dec (v ≤ w)
          → utf8_end text (w + 3) ≡ utf8_end text (v + 3)
      go rest (yes m) = let z : w ≡ v = omega arith in ap (λ i. utf8_end text (i + 3)) z
      go rest (no m) =
          let n = a_char w v b e (omega arith) room f in
          n.same ∙ rest n.behind v (omega (arith, n.more)) n.starts e n.within room (λ i p q. f i (omega (arith, n.more)) q)

  whole : (w v : ℕ) → Begins w → Begins v → w ≤ v → v + 3 ≤ length text → All FitsAt w v → utf8_end text (w + 3) ≡ utf8_end text (v + 3)
  whole w v = turns (v - w) w v (le_refl (v - w))

  -- ---- where the last character begins
  -- a byte that fits and is no tail is the first of a character
  begins_before : (v l : ℕ) → l ≡ v + 3 → FitsAt v → 0xC2 ≤ get_or text l 0 → Begins v
  begins_before v l z f h j k p q =
      let t = f j k l p q z in
      (below_by 0xF0 (get_or text v 0) t.fourth, below_by 0xE0 (get_or text j 0) t.third, below_by 0xC2 (get_or text k 0) t.second)
    where
      below_by : (least b : ℕ) → (least ≤ b → Tail (get_or text l 0)) → b < least
      below_by least b t = go (dec_le least b)
        where
          go : Dec (least ≤ b) → b < least
          go (yes m) = absurd (omega (arith, (t m).1))
          go (no m) = omega arith

  pub begins_here : (i : ℕ) → last_start text i ≡ i + 3 → Begins i
  unfolding last_start
  begins_here i e = go (leb 0xC2 (get_or text (i + 2) 0)) refl (leb 0xE0 (get_or text (i + 1) 0)) refl (leb 0xF0 (get_or text i 0)) refl e
    where
      go : (x : Bool) → leb 0xC2 (get_or text (i + 2) 0) ≡ x → (y : Bool) → leb 0xE0 (get_or text (i + 1) 0) ≡ y → (z : Bool) → leb 0xF0 (get_or text i 0) ≡ z
          → cond x (i + 2) (cond y (i + 1) (cond z i (i + 3))) ≡ i + 3 → Begins i
      go true p y q z r e = absurd (omega arith)
      go false p true q z r e = absurd (omega arith)
      go false p false q true r e = absurd (omega arith)
      go false p false q false r e = begins_by i (i + 1) (i + 2) refl refl (leb-false _ _ r) (leb-false _ _ q) (leb-false _ _ p)

  module _ (w i : ℕ) (b : Begins w) (h : w ≤ i) (room : i + 3 ≤ length text) (f : All FitsAt w i) where
    -- k bytes before the end of those that fit
    back : (k v l : ℕ) → l ≡ v + 3 → v + k ≡ i → 0 < k → w ≤ v → 0xC2 ≤ get_or text l 0 → utf8_end text (w + 3) ≡ utf8_end text l
    back k v l z s p m x =
        whole w v b (begins_before v l z (f v m (omega arith)) x) m (omega arith) (λ j n o. f j n (omega arith)) ∙ ap (utf8_end text) (sym z)

    -- a byte is where it is said to be
    byte : (j k : ℕ) → j ≡ k → (n : ℕ) → n ≤ get_or text j 0 → n ≤ get_or text k 0
    byte j k e n l = subst (λ x. n ≤ get_or text x 0) e l

    pub ends_there : utf8_end text (w + 3) ≡ utf8_end text (last_start text i)
    unfolding last_start
    ends_there = go (leb 0xC2 (get_or text (i + 2) 0)) refl (leb 0xE0 (get_or text (i + 1) 0)) refl (leb 0xF0 (get_or text i 0)) refl
      where
        at_w : (get_or text w 0 < 0xF0) × (get_or text (w + 1) 0 < 0xE0) × (get_or text (w + 2) 0 < 0xC2)
        at_w = b (w + 1) (w + 2) refl refl

        -- none of the three at w is such a byte, so it stands behind them
        past0 : (j : ℕ) → w ≤ j → 0xF0 ≤ get_or text j 0 → w < j
        past0 j l x = go (dec_le j w)
          where
            go : Dec (j ≤ w) → w < j
            go (no m) = omega arith
            go (yes m) = absurd (omega (arith, at_w.0, byte j w (omega arith) 0xF0 x))

        past1 : (j : ℕ) → w < j → 0xE0 ≤ get_or text j 0 → w + 1 < j
        past1 j l x = go (dec_le j (w + 1))
          where
            go : Dec (j ≤ w + 1) → w + 1 < j
            go (no m) = omega arith
            go (yes m) = absurd (omega (arith, at_w.1, byte j (w + 1) (omega arith) 0xE0 x))

        past2 : (j : ℕ) → w + 1 < j → 0xC2 ≤ get_or text j 0 → w + 2 < j
        past2 j l x = go (dec_le j (w + 2))
          where
            go : Dec (j ≤ w + 2) → w + 2 < j
            go (no m) = omega arith
            go (yes m) = absurd (omega (arith, at_w.2, byte j (w + 2) (omega arith) 0xC2 x))

        go : (x : Bool) → leb 0xC2 (get_or text (i + 2) 0) ≡ x → (y : Bool) → leb 0xE0 (get_or text (i + 1) 0) ≡ y → (z : Bool) → leb 0xF0 (get_or text i 0) ≡ z
            → utf8_end text (w + 3) ≡ utf8_end text (cond x (i + 2) (cond y (i + 1) (cond z i (i + 3))))
        go true p y q z r =
            let x = leb-true 0xC2 (get_or text (i + 2) 0) p in
            let m = past2 (i + 2) (omega arith) x in
            back 1 (i - 1) (i + 2) (omega arith) (omega arith) (omega arith) (omega arith) x
        go false p true q z r =
            let x = leb-true 0xE0 (get_or text (i + 1) 0) q in
            let m = past2 (i + 1) (past1 (i + 1) (omega arith) x) (omega arith) in
            back 2 (i - 2) (i + 1) (omega arith) (omega arith) (omega arith) (omega arith) (omega arith)
        go false p false q true r =
            let x = leb-true 0xF0 (get_or text i 0) r in
            let m = past2 i (past1 i (past0 i h x) (omega arith)) (omega arith) in
            back 3 (i - 3) i (omega arith) (omega arith) (omega arith) (omega arith) (omega arith)
        go false p false q false r = whole w i b (begins_by i (i + 1) (i + 2) refl refl (leb-false _ _ r) (leb-false _ _ q) (leb-false _ _ p)) h room f

  -- ---- blocks
  -- one more byte is tested
  pub fits_on : (a b : ℕ) (all : Bool) → (all ≡ true → All (λ i. fits_at text i ≡ true) a b) → (all && fits_at text b) ≡ true → All (λ i. fits_at text i ≡ true) a (b + 1)
  fits_on a b all h e =
      join (λ i. fits_at text i ≡ true) a b (b + 1) (h (and_left all (fits_at text b) e))
      (λ i m l. let z : b ≡ i = omega arith in subst (λ k. fits_at text k ≡ true) z (and_right all (fits_at text b) e))

  -- the bytes of a run are ASCII
  run_first : (i : ℕ) → i < run_end is_ascii text i → is_ascii (get_or text i 0) ≡ true
  run_first i h = go (is_ascii (get_or text i 0)) refl
    where
      go : (b : Bool) → is_ascii (get_or text i 0) ≡ b → is_ascii (get_or text i 0) ≡ true
      go true e = e
      go false e = absurd (omega (arith, run_stop is_ascii text i (omega (arith, run_within is_ascii text i h)) e))

  run_byte : (k i j : ℕ) → i + k ≡ j → j < run_end is_ascii text i → get_or text j 0 < 0x80
  run_byte zero i j z h =
      let e : i ≡ j = omega arith in
      let b = leb-true (get_or text j 0) 0x7F (subst (λ n. is_ascii (get_or text n 0) ≡ true) e (run_first i (omega arith))) in
      omega arith
  run_byte (suc k) i j z h =
      let m : i < run_end is_ascii text i = omega arith in
      let on = run_step is_ascii text i (omega (arith, run_within is_ascii text i m)) (run_first i m) in
      run_byte k (i + 1) j (omega arith) (omega (arith, on))

  -- a run of ASCII fits, but for its first three bytes, of which nothing is said
  pub ascii_on : (i e : ℕ) → run_end is_ascii text i ≡ run_end is_ascii text e → i + 3 < e → (e ≤ length text) × All FitsAt i (e - 3)
  ascii_on i e s h = (
    omega (arith, reach, run_within is_ascii text i (omega (arith, reach))),
    λ n m o j k l p q r. ascii_fits _ _ _ _ (byte n m (omega arith)) (byte j (omega arith) (omega arith)) (byte k (omega arith) (omega arith)) (byte l (omega arith) (omega arith)),
  )
    where
      reach : e ≤ run_end is_ascii text i
      reach = omega (arith, s, run_from is_ascii text e)

      byte : (j : ℕ) → i ≤ j → j < e → get_or text j 0 < 0x80
      byte j m l = run_byte (j - i) i j (omega arith) (omega (arith, reach))

-- ---- what is known when the blocks before i are passed, from `at` on
pub record Passed (text : List ℕ) (at i : ℕ) : Type 0 where
  pub least : 3 ≤ at
  pub starts : Begins text (at - 3)
  pub from : at - 3 ≤ i
  pub room : i + 3 ≤ length text
  pub all_fit : All (FitsAt text) (at - 3) i

module _ (text : List ℕ) (at : ℕ) where
  pub passed_none : 3 ≤ at → at ≤ length text → last_start text (at - 3) ≡ at → Passed text at (at - 3)
  passed_none h l e =
      record { least = h; starts = begins_here text (at - 3) (omega (arith, e)); from = le_refl (at - 3); room = omega arith; all_fit = λ i m o. absurd (omega arith) }

  module _ (i : ℕ) (p : Passed text at i) where
    on : (e : ℕ) → i ≤ e → e + 3 ≤ length text → All (FitsAt text) i e → Passed text at e
    on e h l f =
        record { least = p.least; starts = p.starts; from = omega (arith, p.from); room = l; all_fit = join (FitsAt text) (at - 3) i e p.all_fit f }

    pub passed_ascii : (e : ℕ) → run_end is_ascii text i ≡ run_end is_ascii text e → i + 3 < e → Passed text at (e - 3)
    passed_ascii e s h = let a = ascii_on text i e s h in on (e - 3) (omega arith) (omega (arith, a.0)) a.1

    pub passed_block : (n : ℕ) → i + n + 3 ≤ length text → All (λ j. fits_at text j ≡ true) i (i + n) → Passed text at (i + n)
    passed_block n l f = on (i + n) (omega arith) l (λ j h m. fits_at_lem text j (f j h m))

    pub passed_end : utf8_end text at ≡ utf8_end text (last_start text i)
    passed_end =
        let z : at ≡ at - 3 + 3 = omega (arith, p.least) in
        ap (utf8_end text) z ∙ ends_there text (at - 3) i p.starts p.from p.room p.all_fit
