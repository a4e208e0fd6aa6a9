-- UTF-8 of parts: texts that are UTF-8 by themselves are so one after the other, a text that is UTF-8 is so on both sides of an edge, and ASCII is UTF-8. Assumes nothing.
use Prim.Native.Nat.{ℕ, zero, suc, ◌+◌, ◌-◌, ◌≤◌, ◌<◌}
use mathlib.Core.Path.{◌≡◌, refl, sym, ◌∙◌, ap}
use mathlib.Core.Bool.{Bool, true, false, ◌&&◌}
use mathlib.Core.List.{List, [], ◌∷◌, ◌++◌}
use mathlib.Core.Logic.{◌⊎◌, inl, inr}
use native.Mathlib.Omega.{arith}
use native.Mathlib.Nat.{add-zero}
use lib.Dec.{leb, ltb}
use lib.ListN.{length, drop, take, get_or, length-append, length-drop, take-append-drop}
use lib.Seq.{get_or-drop, length-take-le}
use borrow.Author.Tests.{ltb-true, ltb-false, leb-true}
use Rattle.text.specs.Why.{missing_byte}
use Rattle.text.specs.Nom.{Res, fail, ok}
use Rattle.text.specs.Many.{Many, many, many0, stop}
use Rattle.text.specs.Utf8.{Octet, ◌to◌, Row, UTF8-char, octet, octets, one_of, utf8_char, utf8_end}
use Rattle.text.proofs.Ahead.{Every}
use Rattle.text.proofs.Laws.{and_left, and_right}
use Rattle.text.proofs.Local.{still, mv_many, many0_moves}
use Rattle.text.proofs.Takes.{fail_not_ok, bind_ok}
use Rattle.text.proofs.Utf8.{octet_ok, in_from, takes_utf8_char, char_local, char_longer, char_shorter, ascii, end_on, end_here, end_out}
use Rattle.roundtrip.proofs.Edges.{Edge, start, before, behind, Ascii, plain}
use Rattle.roundtrip.proofs.Gives.{Gives, gives_alt}

-- ---- a character's bytes: one, or all of them high. A test of the grammar's rows
abbrev high : Row → Bool
high [] = true
high (lo to hi ∷ os) = leb 128 lo && high os

abbrev one_or_high : Row → Bool
one_or_high [] = true
one_or_high (o ∷ []) = true
one_or_high (o ∷ p ∷ os) = high (o ∷ p ∷ os)

abbrev all_one_or_high : List Row → Bool
all_one_or_high [] = true
all_one_or_high (r ∷ rs) = one_or_high r && all_one_or_high rs

abbrev High : List ℕ → ℕ → ℕ → Type 0
High text at n = (k : ℕ) → at ≤ k → k < n → 128 ≤ get_or text k 0

module _ (text : List ℕ) (at : ℕ) where
  abbrev OneOrHigh : Unit {0} → ℕ → Type 0
  OneOrHigh _ n = (n ≡ at + 1) ⊎ High text at n

  none_yet : High text at at
  none_yet k from upto = absurd (omega arith)

  -- from a place up to which all are high, a row of high octets more
  octets_high : (r : Row) → high r ≡ true → (m n : ℕ) → octets r text m ≡ ok tt n → High text at m → High text at n
  unfolding octets
  octets_high [] q m n e h = let z : m ≡ n = cc in rw (← z) h
  octets_high (lo to hi ∷ os) q m n e h =
      let f = bind_ok (octet (lo to hi) text m) (λ _ i. octets os text i) tt n e in
      let w = octet_ok (lo to hi) text m f.1 f.2 in
      octets_high os (and_right (leb 128 lo) (high os) q) f.1 n f.3 (on f.1 w.2 (in_from lo hi (get_or text m 0) w.1))
    where
      on : (i : ℕ) → i ≡ m + 1 → lo ≤ get_or text m 0 → High text at i
      on i z l k from upto = go (ltb k m) refl
        where
          go : (b : Bool) → ltb k m ≡ b → 128 ≤ get_or text k 0
          go true y = h k from (ltb-true k m y)
          go false y = let x : k ≡ m = omega (arith, ltb-false k m y) in rw x (omega (arith, leb-true 128 lo (and_left (leb 128 lo) (high os) q)))

  alone : (o : Octet) (n : ℕ) → octets (o ∷ []) text at ≡ ok tt n → n ≡ at + 1
  unfolding octets
  alone o n e =
      let f = bind_ok (octet o text at) (λ _ i. octets [] text i) tt n e in
      let z : f.1 ≡ n = cc in
      sym z ∙ (octet_ok o text at f.1 f.2).2

  row_high : (r : Row) → one_or_high r ≡ true → Gives OneOrHigh (octets r text at)
  row_high [] q u n e = inr (octets_high [] refl at n e none_yet)
  row_high (o ∷ []) q u n e = inl (alone o n e)
  row_high (o ∷ p ∷ os) q u n e = inr (octets_high (o ∷ p ∷ os) q at n e none_yet)

  rows_high : (rs : List Row) → all_one_or_high rs ≡ true → Gives OneOrHigh (one_of rs text at)
  unfolding one_of
  rows_high [] q = λ u n e. absurd (fail_not_ok missing_byte u n e)
  rows_high (r ∷ rs) q =
      gives_alt OneOrHigh _ _ (row_high r (and_left (one_or_high r) (all_one_or_high rs) q)) (λ _ _. rows_high rs (and_right (one_or_high r) (all_one_or_high rs) q))

  char_high : Gives OneOrHigh (utf8_char text at)
  unfolding utf8_char
  char_high = rows_high UTF8-char refl

  -- so no edge is within a character
  no_edge_within : (n e : ℕ) → utf8_char text at ≡ ok tt n → Edge text e → at < e → e < n → ⊥
  no_edge_within n e q d from upto = go (char_high tt n q) d
    where
      go : (n ≡ at + 1) ⊎ High text at n → Edge text e → ⊥
      go (inl z) d = omega arith
      go (inr h) (start z) = omega arith
      go (inr h) (before l) = omega (arith, h e (omega arith) upto)
      go (inr h) (behind m z l) = omega (arith, h m (omega arith) (omega arith))

-- ---- character after character
stop_moves : (k : ℕ) (m : Many (Unit {0})) → stop (mv_many still k m) ≡ k + stop m
stop_moves k (many xs n) = refl

end_moves : (pre xs : List ℕ) → utf8_end (pre ++ xs) (length pre) ≡ length pre + utf8_end xs 0
unfolding utf8_end
end_moves pre xs = ap (λ (n : ℕ). stop (many0 utf8_char (pre ++ xs) n)) (sym (add-zero (length pre))) ∙ ap stop (many0_moves still utf8_char char_local pre xs 0) ∙ stop_moves (length pre) (many0 utf8_char xs 0)

-- ---- a text that is UTF-8
abbrev pub Valid : List ℕ → Type 0
Valid s = utf8_end s 0 ≡ length s

module _ (a b : List ℕ) where
  -- ---- one after the other: from a place of the first on
  abbrev Joined : ℕ → Type 0
  Joined at = at ≤ length a → utf8_end a at ≡ length a → utf8_end (a ++ b) at ≡ utf8_end (a ++ b) (length a)

  joined_turn : (at : ℕ) → ((n : ℕ) → at < n → n ≤ length a → Joined n) → Joined at
  joined_turn at ih h e = go (utf8_char a at) refl
    where
      go : (x : Res (Unit {0})) → utf8_char a at ≡ x → utf8_end (a ++ b) at ≡ utf8_end (a ++ b) (length a)
      go (fail why) q = ap (utf8_end (a ++ b)) (sym (end_here a at why q) ∙ e)
      go (ok u n) q =
          let w = takes_utf8_char a at n u q in
          let k = w.1 (omega (arith, w.0)) in
          end_on (a ++ b) at n (char_longer a b at n q) ∙ ih n (omega (arith, w.0)) k k (sym (end_on a at n q) ∙ e)

  joined : (f at : ℕ) → length a - at ≤ f → Joined at
  joined zero at l = joined_turn at (λ n from upto. absurd (omega arith))
  joined (suc f) at l = joined_turn at (λ n from upto. joined f n (omega arith))

  pub valid_append : Valid a → Valid b → Valid (a ++ b)
  valid_append h k = rw length-append (joined (length a) 0 (omega arith) (omega arith) h ∙ end_moves a b ∙ ap (λ (n : ℕ). length a + n) k)

  -- ---- on both sides of an edge
  module _ (edge : Edge (a ++ b) (length a)) where
    abbrev Parted : ℕ → Type 0
    Parted at = at ≤ length a → utf8_end (a ++ b) at ≡ length (a ++ b) → (utf8_end a at ≡ length a) × (utf8_end (a ++ b) (length a) ≡ length (a ++ b))

    parted_turn : (at : ℕ) → ((n : ℕ) → at < n → n ≤ length a → Parted n) → Parted at
    parted_turn at ih h e = go (ltb at (length a)) refl (utf8_char (a ++ b) at) refl
      where
        on : (n : ℕ) → utf8_char (a ++ b) at ≡ ok tt n → (c : Bool) → ltb (length a) n ≡ c → at < length a → (utf8_end a at ≡ length a) × (utf8_end (a ++ b) (length a) ≡ length (a ++ b))
        on n q true c l = absurd (no_edge_within (a ++ b) at n (length a) q edge l (ltb-true (length a) n c))
        on n q false c l =
            let w = takes_utf8_char (a ++ b) at n tt q in
            let k = ltb-false (length a) n c in
            let r = ih n (omega (arith, w.0)) k k (sym (end_on (a ++ b) at n q) ∙ e) in
            (end_on a at n (char_shorter a b at n q k) ∙ r.0, r.1)

        go : (c : Bool) → ltb at (length a) ≡ c → (x : Res (Unit {0})) → utf8_char (a ++ b) at ≡ x → (utf8_end a at ≡ length a) × (utf8_end (a ++ b) (length a) ≡ length (a ++ b))
        go false c x q = let z : at ≡ length a = omega (arith, ltb-false at (length a) c) in (end_out a at (omega arith) ∙ z, rw z at e)
        go true c (fail why) q = absurd (omega (arith, end_here (a ++ b) at why q, ltb-true at (length a) c, length-append a b))
        go true c (ok u n) q = on n q (ltb (length a) n) refl (ltb-true at (length a) c)

    parted : (f at : ℕ) → length a - at ≤ f → Parted at
    parted zero at l = parted_turn at (λ n from upto. absurd (omega arith))
    parted (suc f) at l = parted_turn at (λ n from upto. parted f n (omega arith))

    pub valid_split : Valid (a ++ b) → Valid a × Valid b
    valid_split h =
        let p = parted (length a) 0 (omega arith) (omega arith) h in
        (p.0, omega (arith, end_moves a b, p.1, length-append a b))

-- ---- ASCII
pub valid_none : Valid []
valid_none = end_out [] 0 (omega arith)

valid_one : (x : ℕ) → x < 128 → Valid (x ∷ [])
valid_one x h = end_on (x ∷ []) 0 1 (ascii (x ∷ []) 0 (omega arith) h) ∙ end_out (x ∷ []) 1 (omega arith)

pub valid_ascii : (p : ℕ → Bool) → Ascii p → (s : List ℕ) → Every p s → Valid s
unfolding Every
valid_ascii p h [] k = valid_none
valid_ascii p h (x ∷ s) k = valid_append (x ∷ []) s (valid_one x (h x k.0)) (valid_ascii p h s k.1)

-- of a text that is written out: `refl`
pub valid_plain : (s : List ℕ) → plain s ≡ true → Valid s
valid_plain [] h = valid_none
valid_plain (x ∷ s) h = valid_append (x ∷ []) s (valid_one x (ltb-true x 128 (and_left (ltb x 128) (plain s) h))) (valid_plain s (and_right (ltb x 128) (plain s) h))

-- ---- a part between two edges
module _ (text : List ℕ) (valid : Valid text) (a b : ℕ) (long : a ≤ b) (within : b ≤ length text) (starts : Edge text a) (ends : Edge text b) where
  edge_within : Edge (drop a text) (b - a)
  edge_within = go ends (ltb a b) refl
    where
      go : Edge text b → (c : Bool) → ltb a b ≡ c → Edge (drop a text) (b - a)
      go e false c = start (omega (arith, ltb-false a b c))
      go (start z) true c = start (omega arith)
      go (before l) true c = before (let z : a + (b - a) ≡ b = omega arith in rw (get_or-drop a text (b - a) 0, z) l)
      go (behind m z l) true c = behind (m - a) (omega (arith, ltb-true a b c)) (let y : a + (m - a) ≡ m = omega (arith, ltb-true a b c) in rw (get_or-drop a text (m - a) 0, y) l)

  pub valid_part : Valid (take (b - a) (drop a text))
  valid_part =
      let s = drop a text in
      let k : length (take a text) ≡ a = length-take-le a text (omega arith) in
      let l : length (take (b - a) s) ≡ b - a = length-take-le (b - a) s (omega (arith, length-drop a text)) in
      let whole = take-append-drop a text in
      let rest = take-append-drop (b - a) s in
      let v = (valid_split (take a text) s (rw (whole, k) starts) (rw whole valid)).1 in
      (valid_split (take (b - a) s) (drop (b - a) s) (rw (rest, l) edge_within) (rw rest v)).0
