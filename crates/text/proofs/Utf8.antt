-- Laws of the UTF-8 grammar, each an induction over its rows: how far a character goes, that it is the same with more text before it or behind it, and that its
-- first byte tells its row. What a law asks of the rows is a test of the table, by `refl`, so that no law spells a byte. Assumes nothing.
use Prim.Native.Nat.{ℕ, zero, suc, ◌+◌, ◌-◌, ◌≤◌, ◌<◌}
use mathlib.Core.Path.{◌≡◌, refl, sym, ◌∙◌, ap}
use mathlib.Core.Bool.{Bool, true, false, ◌&&◌, false≢true}
use mathlib.Core.List.{List, [], ◌∷◌, ◌++◌}
use native.Mathlib.Omega.{arith}
use native.Mathlib.Nat.{add_assoc, le_refl}
use lib.Dec.{leb, ltb}
use lib.ListN.{length, get_or, length-append, get_or-append}
use lib.Seq.{get_or-append-add}
use borrow.Author.Tests.{ltb-true, ltb-false, lt-ltb, le-ltb, leb-true, le-leb, lt-leb}
use Rattle.text.specs.Why.{Why, missing_byte}
use Rattle.text.specs.Nom.{Res, fail, ok, is_ascii, run_end, when, or_else}
use Rattle.text.specs.Many.{stop}
use Rattle.text.specs.Utf8.{Octet, ◌to◌, Row, UTF8-1, UTF8-2, UTF8-3, UTF8-4, UTF8-char, in_octet, octet, octets, one_of, utf8_char, utf8_end}
use Rattle.text.proofs.Laws.{and_left, and_right, run_out, run_stop, run_step}
use Rattle.text.proofs.Takes.{Takes, fail_not_ok, when_ok, when_went, bind_ok, takes_done, takes_bind, takes_less, takes_alt, takes_falls}
use Rattle.text.proofs.Chain.{or_assoc}
use Rattle.text.proofs.Many.{Falls, many_stop, stop_step}
use Rattle.text.proofs.Local.{Local, still, in_moves, done_moves, fail_moves, when_moves, bind_moves, alt_moves}

-- ---- an octet
module _ (o : Octet) where
  takes_octet : Takes 1 (octet o)
  unfolding octet
  takes_octet text at n a =
      let b = in_octet o (get_or text at 0) in
      when_went 1 text at n a (ltb at (length text) && b) missing_byte tt (at + 1) (λ q. (omega arith, λ h. omega (arith, ltb-true at (length text) (and_left (ltb at (length text)) b q))))

  octet_local : Local still (octet o)
  unfolding octet
  octet_local pre xs n =
      rw (in_moves pre xs n, get_or-append-add pre xs n 0, add_assoc (length pre) n 1)
      (when_moves still (length pre) (ltb n (length xs) && in_octet o (get_or xs n 0)) missing_byte tt (n + 1))

  pub octet_ok : (text : List ℕ) (at n : ℕ) → octet o text at ≡ ok tt n → (at < length text) × (in_octet o (get_or text at 0) ≡ true) × (n ≡ at + 1)
  unfolding octet
  octet_ok text at n e =
      let here = ltb at (length text) in
      let b = in_octet o (get_or text at 0) in
      let w = when_ok (here && b) missing_byte tt tt (at + 1) n e in
      (ltb-true at (length text) (and_left here b w.0), and_right here b w.0, sym w.2)

  pub octet_there : (text : List ℕ) (at : ℕ) → at < length text → in_octet o (get_or text at 0) ≡ true → octet o text at ≡ ok tt (at + 1)
  unfolding octet
  octet_there text at h k = rw (lt-ltb at (length text) h, k)

  pub octet_out : (text : List ℕ) (at : ℕ) → length text ≤ at → octet o text at ≡ fail missing_byte
  unfolding octet
  octet_out text at h = rw (le-ltb at (length text) h)

  octet_longer : (a b : List ℕ) (at n : ℕ) → octet o a at ≡ ok tt n → octet o (a ++ b) at ≡ ok tt n
  octet_longer a b at n e =
      let w = octet_ok a at n e in
      octet_there (a ++ b) at (omega (arith, length-append a b, w.0)) (rw (get_or-append a b 0 at w.0) w.1) ∙ ap (ok tt) (sym w.2)

  octet_shorter : (a b : List ℕ) (at n : ℕ) → octet o (a ++ b) at ≡ ok tt n → n ≤ length a → octet o a at ≡ ok tt n
  octet_shorter a b at n e h =
      let w = octet_ok (a ++ b) at n e in
      let l : at < length a = omega (arith, w.2) in
      octet_there a at l (rw (get_or-append a b 0 at l) at w.1) ∙ ap (ok tt) (sym w.2)

module _ (lo hi b : ℕ) where
  pub in_from : in_octet (lo to hi) b ≡ true → lo ≤ b
  in_from e = leb-true lo b (and_left (leb lo b) (leb b hi) e)

  pub in_upto : in_octet (lo to hi) b ≡ true → b ≤ hi
  in_upto e = leb-true b hi (and_right (leb lo b) (leb b hi) e)

-- a byte below it is none
octet_below : (lo hi : ℕ) (text : List ℕ) (at : ℕ) → get_or text at 0 < lo → octet (lo to hi) text at ≡ fail missing_byte
unfolding octet
octet_below lo hi text at h = rw (lt-leb lo (get_or text at 0) h) (go (ltb at (length text)))
  where
    go : (here : Bool) → when (here && false) missing_byte (ok (tt {0}) (at + 1)) ≡ fail missing_byte
    go true = refl
    go false = refl

-- ---- a row
-- a byte for each octet
pub takes_octets : (r : Row) → Takes (length r) (octets r)
unfolding octets
takes_octets [] = takes_done tt
takes_octets (o ∷ os) =
    takes_less (length (o ∷ os)) (1 + length os) (omega arith) (octets (o ∷ os)) (takes_bind 1 (length os) (octet o) (λ _. octets os) (takes_octet o) (λ _. takes_octets os))

octets_local : (r : Row) → Local still (octets r)
unfolding octets
octets_local [] pre xs n = done_moves still (length pre) tt n
octets_local (o ∷ os) pre xs n = bind_moves still still (length pre) _ _ _ _ (octet_local o pre xs n) (λ _ m. octets_local os pre xs m)

octets_longer : (r : Row) (a b : List ℕ) (at n : ℕ) → octets r a at ≡ ok tt n → octets r (a ++ b) at ≡ ok tt n
unfolding octets
octets_longer [] a b at n e = e
octets_longer (o ∷ os) a b at n e =
    let f = bind_ok (octet o a at) (λ _ m. octets os a m) tt n e in
    rw (octet_longer o a b at f.1 f.2) (octets_longer os a b f.1 n f.3)

octets_shorter : (r : Row) (a b : List ℕ) (at n : ℕ) → octets r (a ++ b) at ≡ ok tt n → n ≤ length a → octets r a at ≡ ok tt n
unfolding octets
octets_shorter [] a b at n e h = e
octets_shorter (o ∷ os) a b at n e h =
    let f = bind_ok (octet o (a ++ b) at) (λ _ m. octets os (a ++ b) m) tt n e in
    let w = takes_octets os (a ++ b) f.1 n tt f.3 in
    rw (octet_shorter o a b at f.1 f.2 (omega (arith, w.0))) (octets_shorter os a b f.1 n f.3 h)

-- ---- rows, told apart by their first bytes: each begins above those before it
abbrev pub above : ℕ → List Row → Bool
above k [] = true
above k ([] ∷ rs) = false
above k ((lo to hi ∷ os) ∷ rs) = ltb k lo && above k rs

abbrev pub apart : List Row → Bool
apart [] = true
apart ([] ∷ rs) = false
apart ((lo to hi ∷ os) ∷ rs) = above hi rs && apart rs

module _ (text : List ℕ) (at : ℕ) where
  -- where a byte stands that is not above k, no row that begins above k is there
  above_fails : (k : ℕ) (rs : List Row) → above k rs ≡ true → get_or text at 0 ≤ k → one_of rs text at ≡ fail missing_byte
  unfolding one_of octets
  above_fails k [] h l = refl
  above_fails k ([] ∷ rs) h l = absurd (false≢true h)
  above_fails k ((lo to hi ∷ os) ∷ rs) h l =
      let begins = ltb-true k lo (and_left (ltb k lo) (above k rs) h) in
      rw (octet_below lo hi text at (omega (arith, begins))) (above_fails k rs (and_right (ltb k lo) (above k rs) h) l)

  -- the first octet of a row decides: where it is there, no row behind it can be
  pub row_decides : (lo hi : ℕ) (os : Row) (rs : List Row) (b : Bool) (n : ℕ) → above hi rs ≡ true → octet (lo to hi) text at ≡ ok tt (at + 1)
      → when b missing_byte (ok tt n) ≡ octets os text (at + 1) → when b missing_byte (ok tt n) ≡ one_of ((lo to hi ∷ os) ∷ rs) text at
  unfolding one_of octets
  row_decides lo hi os rs b n h e f = rw (e, ← f, above_fails hi rs h (in_upto lo hi (get_or text at 0) (octet_ok (lo to hi) text at (at + 1) e).1)) (go b)
    where
      go : (b : Bool) → when b missing_byte (ok (tt {0}) n) ≡ or_else (when b missing_byte (ok tt n)) (fail missing_byte)
      go true = refl
      go false = refl

  -- and where it is not there, those behind it have the answer
  pub row_fails : (o : Octet) (os : Row) (rs : List Row) → octet o text at ≡ fail missing_byte → one_of rs text at ≡ one_of ((o ∷ os) ∷ rs) text at
  unfolding one_of octets
  row_fails o os rs e = rw e

  row_first : (lo hi : ℕ) (os : Row) (n : ℕ) → octets (lo to hi ∷ os) text at ≡ ok tt n → get_or text at 0 ≤ hi
  unfolding octets
  row_first lo hi os n e =
      let f = bind_ok (octet (lo to hi) text at) (λ _ m. octets os text m) tt n e in
      in_upto lo hi (get_or text at 0) (octet_ok (lo to hi) text at f.1 f.2).1

  -- one list of rows after the other
  pub rows_append : (rs qs : List Row) → one_of (rs ++ qs) text at ≡ or_else (one_of rs text at) (one_of qs text at)
  unfolding one_of
  rows_append [] qs = refl
  rows_append (r ∷ rs) qs = rw (rows_append rs qs) (or_assoc (octets r text at) (one_of rs text at) (one_of qs text at))

takes_rows : (rs : List Row) → apart rs ≡ true → Takes 1 (one_of rs)
unfolding one_of
takes_rows [] h = λ text at n a e. absurd (fail_not_ok missing_byte a n e)
takes_rows ([] ∷ rs) h = absurd (false≢true h)
takes_rows ((lo to hi ∷ os) ∷ rs) h =
    takes_alt 1 (octets (lo to hi ∷ os)) (one_of rs)
    (takes_less 1 (length (lo to hi ∷ os)) (omega arith) (octets (lo to hi ∷ os)) (takes_octets (lo to hi ∷ os)))
    (takes_rows rs (and_right (above hi rs) (apart rs) h))

rows_local : (rs : List Row) → Local still (one_of rs)
unfolding one_of
rows_local [] pre xs n = fail_moves still (length pre) missing_byte
rows_local (r ∷ rs) pre xs n = alt_moves still (length pre) _ _ _ _ (octets_local r pre xs n) (rows_local rs pre xs n)

-- a row that is there stays there with more text behind it; and where another becomes whole then, its first byte is another
rows_longer : (rs : List Row) → apart rs ≡ true → (a b : List ℕ) (at n : ℕ) → one_of rs a at ≡ ok tt n → one_of rs (a ++ b) at ≡ ok tt n
unfolding one_of
rows_longer [] h a b at n e = absurd (fail_not_ok missing_byte tt n e)
rows_longer ([] ∷ rs) h a b at n e = absurd (false≢true h)
rows_longer ((lo to hi ∷ os) ∷ rs) h a b at n e = go (octets r a at) refl e (rows_longer rs (and_right (above hi rs) (apart rs) h) a b at n) (octets r (a ++ b) at) refl
  where
    r : Row
    r = lo to hi ∷ os

    go : (x : Res (Unit {0})) → octets r a at ≡ x → or_else x (one_of rs a at) ≡ ok tt n → (one_of rs a at ≡ ok tt n → one_of rs (a ++ b) at ≡ ok tt n)
        → (y : Res (Unit {0})) → octets r (a ++ b) at ≡ y → or_else y (one_of rs (a ++ b) at) ≡ ok tt n
    go (ok u m) f e ih y g = rw (sym g ∙ octets_longer r a b at m f) e
    go (fail why) f e ih (fail why') g = ih e
    go (fail why) f e ih (ok u m) g =
        absurd (fail_not_ok missing_byte tt n (sym (above_fails (a ++ b) at hi rs (and_left (above hi rs) (apart rs) h) (row_first (a ++ b) at lo hi os m g)) ∙ ih e))

rows_shorter : (rs : List Row) → apart rs ≡ true → (a b : List ℕ) (at n : ℕ) → one_of rs (a ++ b) at ≡ ok tt n → n ≤ length a → one_of rs a at ≡ ok tt n
unfolding one_of
rows_shorter [] h a b at n e l = absurd (fail_not_ok missing_byte tt n e)
rows_shorter ([] ∷ rs) h a b at n e l = absurd (false≢true h)
rows_shorter ((lo to hi ∷ os) ∷ rs) h a b at n e l =
    go (octets r (a ++ b) at) refl e (λ e. rows_shorter rs (and_right (above hi rs) (apart rs) h) a b at n e l) (octets r a at) refl
  where
    r : Row
    r = lo to hi ∷ os

    go : (x : Res (Unit {0})) → octets r (a ++ b) at ≡ x → or_else x (one_of rs (a ++ b) at) ≡ ok tt n → (one_of rs (a ++ b) at ≡ ok tt n → one_of rs a at ≡ ok tt n)
        → (y : Res (Unit {0})) → octets r a at ≡ y → or_else y (one_of rs a at) ≡ ok tt n
    go (ok u m) f e ih y g = rw (sym g ∙ octets_shorter r a b at n (f ∙ e) l)
    go (fail why) f e ih (fail why') g = ih e
    go (fail why) f e ih (ok u m) g = absurd (fail_not_ok why tt m (sym f ∙ octets_longer r a b at m g))

-- ---- a character
pub takes_utf8_char : Takes 1 utf8_char
unfolding utf8_char
takes_utf8_char = takes_rows UTF8-char refl

pub char_local : Local still utf8_char
unfolding utf8_char
char_local = rows_local UTF8-char

pub char_longer : (a b : List ℕ) (at n : ℕ) → utf8_char a at ≡ ok tt n → utf8_char (a ++ b) at ≡ ok tt n
unfolding utf8_char
char_longer = rows_longer UTF8-char refl

pub char_shorter : (a b : List ℕ) (at n : ℕ) → utf8_char (a ++ b) at ≡ ok tt n → n ≤ length a → utf8_char a at ≡ ok tt n
unfolding utf8_char
char_shorter = rows_shorter UTF8-char refl

module _ (text : List ℕ) (at : ℕ) where
  -- UTF8-1 / UTF8-2 / UTF8-3 / UTF8-4
  pub char_rows : utf8_char text at ≡ or_else (one_of UTF8-1 text at) (or_else (one_of UTF8-2 text at) (or_else (one_of UTF8-3 text at) (one_of UTF8-4 text at)))
  unfolding utf8_char
  char_rows =
      rows_append text at UTF8-1 (UTF8-2 ++ UTF8-3 ++ UTF8-4)
      ∙ ap (or_else (one_of UTF8-1 text at)) (rows_append text at UTF8-2 (UTF8-3 ++ UTF8-4) ∙ ap (or_else (one_of UTF8-2 text at)) (rows_append text at UTF8-3 UTF8-4))

  -- a byte below 0x80 is a character
  pub ascii : at < length text → get_or text at 0 < 0x80 → utf8_char text at ≡ ok tt (at + 1)
  unfolding utf8_char one_of octets octet
  ascii h l = rw (lt-ltb at (length text) h, le-leb 0 (get_or text at 0) (omega arith), le-leb (get_or text at 0) 0x7F (omega arith))

  -- ---- character after character
  falls : Falls utf8_char text
  falls = takes_falls 0 utf8_char takes_utf8_char text

  pub end_on : (n : ℕ) → utf8_char text at ≡ ok tt n → utf8_end text at ≡ utf8_end text n
  unfolding utf8_end
  end_on n e = stop_step utf8_char text falls at n tt e

  pub end_here : (why : Why) → utf8_char text at ≡ fail why → utf8_end text at ≡ at
  unfolding utf8_end
  end_here why e = ap stop (many_stop utf8_char text falls at why e)

  pub end_out : length text ≤ at → utf8_end text at ≡ at
  end_out h = go (utf8_char text at) refl
    where
      go : (r : Res (Unit {0})) → utf8_char text at ≡ r → utf8_end text at ≡ at
      go (fail why) e = end_here why e
      go (ok a n) e = absurd (let w = takes_utf8_char text at n a e in omega (arith, w.0, w.1 (omega (arith, w.0))))

-- a run of ASCII is characters of one byte each
module _ (text : List ℕ) where
  ascii_turns : (f at : ℕ) → length text - at ≤ f → utf8_end text at ≡ utf8_end text (run_end is_ascii text at)
  ascii_turns zero at l = sym (ap (utf8_end text) (run_out is_ascii text at (omega arith)))
  ascii_turns (suc f) at l = go (ltb at (length text)) refl (is_ascii (get_or text at 0)) refl (ascii_turns f (at + 1))
    where
      go : (here : Bool) → ltb at (length text) ≡ here → (b : Bool) → is_ascii (get_or text at 0) ≡ b
          → (length text - (at + 1) ≤ f → utf8_end text (at + 1) ≡ utf8_end text (run_end is_ascii text (at + 1))) → utf8_end text at ≡ utf8_end text (run_end is_ascii text at)
      go false h b e ih = sym (ap (utf8_end text) (run_out is_ascii text at (ltb-false at (length text) h)))
      go true h false e ih = sym (ap (utf8_end text) (run_stop is_ascii text at (ltb-true at (length text) h) e))
      go true h true e ih =
          let i = ltb-true at (length text) h in
          let k = leb-true (get_or text at 0) 0x7F e in
          end_on text at (at + 1) (ascii text at i (omega arith)) ∙ ih (omega arith) ∙ sym (ap (utf8_end text) (run_step is_ascii text at i e))

  pub ascii_run : (at : ℕ) → utf8_end text at ≡ utf8_end text (run_end is_ascii text at)
  ascii_run at = ascii_turns (length text - at) at (le_refl (length text - at))
