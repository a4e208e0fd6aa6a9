-- Bytes put into an output: some and then others, those that fit, those that are lost, and those put into a lent tail. By induction on the bytes.
-- Assumes nothing.
use mathlib.Core.Path.{◌≡◌, refl, ap, sym, ◌∙◌}
use mathlib.Core.Bool.{Bool, true, false, cond}
use mathlib.Core.List.{List, [], ◌∷◌, ◌++◌, append-nil}
use Prim.Native.Nat.{ℕ, suc, ◌+◌, ◌-◌, ◌≤◌, ◌<◌}
use native.Mathlib.Nat.{add-zero, add_assoc}
use native.Mathlib.Numerals.{add-one}
use native.Mathlib.Omega.{arith}
use lib.Dec.{ltb, leb}
use lib.ListN.{set, length, take, drop, get_or, length-set, length-take, length-drop, take-append-drop, drop_of_length-le}
use lib.Seq.{sets, sets-eq, length-take-le, take_all, take_at, drop-cons, drop-set-add, take-set-le}
use borrow.Author.Tests.{lt-ltb, le-ltb, ltb-true, leb-true, leb-false}
use borrow.Rule.Slice.PartMut.{put_mid}
use Rattle.put.specs.Put.{Output, up_to, put_byte, put, Puts}
use Rattle.put.specs.Inside.Room.{Room}

-- ---- one behind the other
pub puts_none : {out : List ℕ} {at : ℕ} → Puts out at [] out at
unfolding put
puts_none = record { after = refl }

put_append : (o : Output) (a b : List ℕ) → put o (a ++ b) ≡ put (put o a) b
unfolding put
put_append o [] b = refl
put_append o (x ∷ a) b = put_append (put_byte o x) a b

module _ {out₀ : List ℕ} {at₀ : ℕ} {a out₁ : List ℕ} {at₁ : ℕ} where
  pub puts_then : {b out₂ : List ℕ} {at₂ : ℕ} → Puts out₀ at₀ a out₁ at₁ → Puts out₁ at₁ b out₂ at₂ → Puts out₀ at₀ (a ++ b) out₂ at₂
  puts_then {b} p q = record { after = q.after ∙ ap (λ o. put o b) p.after ∙ sym (put_append (up_to out₀ at₀) a b) }

  -- the same bytes by another name
  pub puts_as : {b : List ℕ} → a ≡ b → Puts out₀ at₀ a out₁ at₁ → Puts out₀ at₀ b out₁ at₁
  puts_as e p = rw (← e) p

-- ---- while there is room, and where there is none
module _ {out : List ℕ} {at : ℕ} where
  pub byte_fits : {b : ℕ} → at < length out → Puts out at (b ∷ []) (set out at b) (at + 1)
  unfolding put put_byte
  byte_fits h = record { after = rw (lt-ltb at (length out) h) }

  pub puts_lost : (bs : List ℕ) → length out ≤ at → Puts out at bs out at
  unfolding put put_byte
  puts_lost [] h = record { after = refl }
  puts_lost (b ∷ bs) h = record { after = rw (le-ltb at (length out) h) (puts_lost bs h).after }

-- all of them have room
pub puts_fit : (out : List ℕ) (at : ℕ) (bs : List ℕ) → Room out at bs → Puts out at bs (sets out at bs) (at + length bs)
unfolding put put_byte
puts_fit out at [] h = record { after = rw add-zero }
puts_fit out at (b ∷ bs) h =
    let e : at + suc (length bs) ≡ suc at + length bs = omega arith in
    record { after = rw (lt-ltb at (length out) (omega arith), e, add-one at) (puts_fit (set out at b) (suc at) bs (omega (arith, length-set out at b))).after }

-- ---- what is never lost: the output's length, and a place within it
abbrev out_of : Output → List ℕ
out_of (up_to out at) = out

abbrev Within : Output → Type 0
Within (up_to out at) = at ≤ length out

byte_long : (o : Output) (b : ℕ) → length (out_of (put_byte o b)) ≡ length (out_of o)
unfolding put_byte
byte_long (up_to out at) b = go (ltb at (length out))
  where
    go : (t : Bool) → length (out_of (cond t (up_to (set out at b) (at + 1)) (up_to out at))) ≡ length out
    go true = length-set out at b
    go false = refl

put_long : (o : Output) (bs : List ℕ) → length (out_of (put o bs)) ≡ length (out_of o)
unfolding put
put_long o [] = refl
put_long o (b ∷ bs) = put_long (put_byte o b) bs ∙ byte_long o b

byte_within : (o : Output) (b : ℕ) → Within o → Within (put_byte o b)
unfolding put_byte
byte_within (up_to out at) b h = go (ltb at (length out)) refl
  where
    go : (t : Bool) → ltb at (length out) ≡ t → Within (cond t (up_to (set out at b) (at + 1)) (up_to out at))
    go true e = let l : at < length out = ltb-true at (length out) e in omega (arith, length-set out at b)
    go false e = h

put_within : (o : Output) (bs : List ℕ) → Within o → Within (put o bs)
unfolding put
put_within o [] h = h
put_within o (b ∷ bs) h = put_within (put_byte o b) bs (byte_within o b h)

module _ {out₀ : List ℕ} {at₀ : ℕ} {bs out : List ℕ} {at : ℕ} (p : Puts out₀ at₀ bs out at) where
  pub puts_long : length out ≡ length out₀
  puts_long = ap (λ o. length (out_of o)) p.after ∙ put_long (up_to out₀ at₀) bs

  pub puts_within : at₀ ≤ length out₀ → at ≤ length out
  puts_within h = rw (← p.after) at (put_within (up_to out₀ at₀) bs h)

  -- bytes that have room are all there
  module _ (room : Room out₀ at₀ bs) where
    pub fit_place : at ≡ at₀ + length bs
    fit_place = let e = p.after ∙ sym (puts_fit out₀ at₀ bs room).after in cc

    pub fit_bytes : out ≡ sets out₀ at₀ bs
    fit_bytes = let e = p.after ∙ sym (puts_fit out₀ at₀ bs room).after in cc

-- put from the front on, they are found there
pub fit_front : {out₀ bs out : List ℕ} {at : ℕ} → Puts out₀ 0 bs out at → Room out₀ 0 bs → (at ≤ length out) × (take at out ≡ bs)
fit_front {out₀} {bs} p room =
    let n : 0 + length bs ≡ length bs = omega arith in (
      omega (arith, fit_place p room, puts_long p),
      rw (fit_place p room, n, fit_bytes p room, sets-eq bs out₀ 0 room) (take_at bs (drop (0 + length bs) out₀) (length bs) refl),
    )

-- no second result fits
pub puts_once : {out₀ : List ℕ} {at₀ : ℕ} {bs out : List ℕ} {at : ℕ} {out' : List ℕ} {at' : ℕ} → Puts out₀ at₀ bs out at → Puts out₀ at₀ bs out' at' → (out ≡ out') × (at ≡ at')
puts_once p q = let e = p.after ∙ sym q.after in (cc, cc)

-- ---- piece by piece: what is left, put from the place reached on, is the whole put
pub record Left (out₀ : List ℕ) (at₀ : ℕ) (whole out : List ℕ) (at : ℕ) (left : List ℕ) : Type 0 where
  pub same : put (up_to out at) left ≡ put (up_to out₀ at₀) whole
  pub long : length out ≡ length out₀

pub left_all : (out : List ℕ) (at : ℕ) (whole : List ℕ) → Left out at whole out at whole
left_all out at whole = record { same = refl; long = refl }

module _ {out₀ : List ℕ} {at₀ : ℕ} {whole out : List ℕ} {at : ℕ} where
  -- the same bytes by another name
  pub left_as : {a b : List ℕ} → a ≡ b → Left out₀ at₀ whole out at a → Left out₀ at₀ whole out at b
  left_as e h = rw (← e) h

  -- a piece is put
  pub left_on : {p left : List ℕ} → Left out₀ at₀ whole out at (p ++ left) → {out' : List ℕ} {n : ℕ} → Puts out at p out' n → Left out₀ at₀ whole out' n left
  left_on {p} {left} h q =
      record { same = ap (λ o. put o left) q.after ∙ sym (put_append (up_to out at) p left) ∙ h.same; long = puts_long q ∙ h.long }

  pub left_none : Left out₀ at₀ whole out at [] → Puts out₀ at₀ whole out at
  unfolding put
  left_none h = record { after = h.same }

-- byte k of a list of them
pub left_byte : {out₀ : List ℕ} {at₀ : ℕ} {whole out : List ℕ} (at : ℕ) (from : List ℕ) (k : ℕ) → k < length from → at + k < length out
    → Left out₀ at₀ whole out (at + k) (drop k from) → Left out₀ at₀ whole (set out (at + k) (get_or from k 0)) (at + (k + 1)) (drop (k + 1) from)
left_byte at from k l r h =
    let e : drop k from ≡ (get_or from k 0 ∷ []) ++ drop (k + 1) from = rw add-one (drop-cons from k 0 l) in
    rw (← add_assoc at k 1) (left_on (left_as e h) (byte_fits r))

-- ---- as many as have room, and what is lost then
module _ (out : List ℕ) (at : ℕ) (h : at ≤ length out) (bs : List ℕ) where
  -- `n` have room
  pub puts_kept : (n : ℕ) → n ≡ length out - at → {out' : List ℕ} {r : ℕ} → Puts out at (take n bs) out' r → Puts out at bs out' r
  puts_kept n e {out'} {r} p = go (leb (length bs) n) refl
    where
      go : (t : Bool) → leb (length bs) n ≡ t → Puts out at bs out' r
      go true q = puts_as (take_all n bs (leb-true (length bs) n q)) p
      go false q =
          let l : n < length bs = leb-false (length bs) n q in
          let k : length (take n bs) ≡ n = length-take-le n bs (omega arith) in
          puts_as (take-append-drop n bs) (puts_then p (puts_lost (drop n bs) (omega (arith, fit_place p (omega arith), puts_long p))))

  -- so each byte of the output is known
  abbrev pub kept : List ℕ
  kept = take (length out - at) bs

  pub puts_all : Puts out at bs (sets out at kept) (at + length kept)
  puts_all = puts_kept (length out - at) refl (puts_fit out at kept (omega (arith, length-take (length out - at) bs)))

-- ---- a lent tail
-- laid into the tail from `at` on, said of the whole
sets_tail : (l : List ℕ) (at j : ℕ) (ws : List ℕ) → take at l ++ sets (drop at l) j ws ≡ sets l (at + j) ws
sets_tail l at j [] = take-append-drop at l
sets_tail l at j (w ∷ ws) =
    let e : suc (at + j) ≡ at + suc j = omega arith in
    rw (← drop-set-add at l j w, ← take-set-le at l (at + j) w (omega arith), e) (sets_tail (set l (at + j) w) at (suc j) ws)

module _ (l : List ℕ) (at : ℕ) where
  lent_all : take (length l - at) (drop at l) ≡ drop at l
  lent_all = take_all (length l - at) (drop at l) (omega (arith, length-drop at l))

  -- bytes put into it from its front on are put into the whole from `at` on
  pub puts_tail : at ≤ length l → (bs : List ℕ) {m : List ℕ} {r : ℕ} → Puts (take (length l - at) (drop at l)) 0 bs m r → Puts l at bs (put_mid at (length l - at) l m) (at + r)
  puts_tail h bs {m} {r} p =
      let n : length (drop at l) - 0 ≡ length l - at = omega (arith, length-drop at l) in
      let o = puts_once (rw lent_all at p) (puts_all (drop at l) 0 (omega arith) bs) in
      let k : at + (0 + length (take (length l - at) bs)) ≡ at + length (take (length l - at) bs) = omega arith in
      rw (o.0, o.1, n, drop_of_length-le (drop at l) {i = length l - at} (omega (arith, length-drop at l)), append-nil, sets_tail l at 0 (take (length l - at) bs), add-zero at, k) (puts_all l at h bs)
