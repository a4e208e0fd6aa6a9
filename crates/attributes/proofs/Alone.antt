-- A byte range in quotes is read where it stands, though the Rust reads the value on its own (`byte_range_val(s.as_bytes())`): here is why that is the
-- same. The bytes of a byte range are digits and `@`, so nothing from the closing quote mark on has a part in it. Assumes nothing.
use Prim.Native.Nat.{ℕ, suc, ◌+◌, ◌-◌, ◌*◌, ◌≤◌, zero-le}
use mathlib.Core.Path.{◌≡◌, refl, sym, ◌∙◌, ap}
use mathlib.Core.Bool.{Bool, false}
use mathlib.Core.List.{List, [], ◌∷◌, ◌++◌}
use mathlib.Core.Option.{Option, none, some}
use native.Mathlib.Omega.{arith}
use lib.Dec.{eqb}
use lib.ListN.{length, take, drop, get_or, take-append-drop}
use lib.Seq.{drop-append-le, drop-drop, drop-cons}
use borrow.Author.Tests.{eqb-true}
use Rattle.text.specs.Why.{range_not_quoted}
use Rattle.text.specs.Nom.{Res, fail, ok, Parser, span, bytes, is_digit, begins, tagged, run, run_end, decimal, or_none, bind, tag, digit1, opt, preceded, done, ◌>>=◌}
use Rattle.text.specs.Many.{many0, items}
use Rattle.text.specs.Util.{Parsed, fits, large, parse, parsed, or_fail, number, ByteRange, range, byte_range_val}
use Rattle.text.proofs.Laws.{tagged_byte, tagged_within}
use Rattle.text.proofs.Takes.{Takes, takes_within, takes_tag, takes_digits, takes_parsed, takes_number, takes_opt, takes_bind}
use Rattle.text.proofs.Local.{shift, mv_range, range_local}
use Rattle.text.proofs.Ahead.{local_ahead}
use Rattle.attributes.specs.Pairs.{QuotedOrUnquoted, bare, in_quotes, quoted, next_pair, get}
use Rattle.attributes.specs.ExtMap.{begun, range_of}
use Rattle.attributes.proofs.Taken.{quoted_ok, next_quoted}
use Rattle.attributes.proofs.Source.{got}

-- ---- a rule that no byte from a mark c on has a part in
abbrev Cut : {A : Type 0} → ℕ → Parser A → Type 0
Cut c p = (b ys : List ℕ) (n : ℕ) → n ≤ length b → p (b ++ c ∷ ys) n ≡ p b n

module _ (c : ℕ) where
  run_cut : (p : ℕ → Bool) → p c ≡ false → (s ys : List ℕ) → run p (s ++ c ∷ ys) ≡ run p s
  unfolding run
  run_cut p h [] ys = rw h
  run_cut p h (x ∷ s) ys = rw (run_cut p h s ys)

  decimal_cut : is_digit c ≡ false → (s ys : List ℕ) (acc : ℕ) → decimal acc (s ++ c ∷ ys) ≡ decimal acc s
  unfolding decimal
  decimal_cut h [] ys acc = rw h
  decimal_cut h (x ∷ s) ys acc = rw (decimal_cut h s ys (acc * 10 + (x - 48)))

  begins_cut : (t : ℕ) → eqb c t ≡ false → (s ys : List ℕ) → begins (t ∷ []) (s ++ c ∷ ys) ≡ begins (t ∷ []) s
  unfolding begins
  begins_cut t h [] ys = rw h
  begins_cut t h (x ∷ s) ys = refl

  cut_digits : is_digit c ≡ false → Cut c digit1
  unfolding run_end
  cut_digits h b ys n l = rw (drop-append-le n b (c ∷ ys) l, run_cut is_digit h (drop n b) ys, decimal_cut h (drop n b) ys 0)

  cut_tag : (t : ℕ) → eqb c t ≡ false → Cut c (tag (t ∷ []))
  unfolding tagged
  cut_tag t h b ys n l = rw (drop-append-le n b (c ∷ ys) l, begins_cut t h (drop n b) ys)

  module _ {A B : Type 0} where
    cut_bind : (k : ℕ) (p : Parser A) (q : A → Parser B) → Takes k p → Cut c p → ((a : A) → Cut c (q a)) → Cut c (p >>= q)
    cut_bind k p q w hp hq b ys n l = rw (hp b ys n l) (go (p b n) refl)
      where
        go : (r : Res A) → p b n ≡ r → bind r (λ a m. q a (b ++ c ∷ ys) m) ≡ bind r (λ a m. q a b m)
        go (fail why) e = refl
        go (ok a m) e = hq a b ys m (takes_within k p w b n m a e l)

  cut_opt : {A : Type 0} (p : Parser A) → Cut c p → Cut c (opt p)
  cut_opt p h b ys n l = ap (λ r. or_none r n) (h b ys n l)

  module _ (h : is_digit c ≡ false) where
    cut_parsed : Cut c parsed
    unfolding parsed
    cut_parsed = cut_bind 1 digit1 (λ n. done (parse n)) takes_digits (cut_digits h) (λ n b ys m l. refl)

    cut_or_fail : (v : Parsed) → Cut c (or_fail v)
    cut_or_fail (fits v) = λ b ys n l. refl
    cut_or_fail large = λ b ys n l. refl

    cut_number : Cut c number
    unfolding number
    cut_number = cut_bind 1 parsed or_fail takes_parsed cut_parsed cut_or_fail

    cut_range : eqb c 64 ≡ false → Cut c byte_range_val
    unfolding byte_range_val
    cut_range h' =
        let at = preceded (tag (bytes "@")) number in
        let takes_at : Takes 2 at = takes_bind 1 1 (tag (bytes "@")) (λ _. number) (takes_tag (bytes "@")) (λ _. takes_number) in
        let cut_at : Cut c at = cut_bind 1 (tag (bytes "@")) (λ _. number) (takes_tag (bytes "@")) (cut_tag 64 h') (λ _. cut_number) in
        cut_bind 1 number (λ n. opt at >>= λ o. done (range n o)) takes_number cut_number (λ n.
        cut_bind 0 (opt at) (λ o. done (range n o)) (takes_opt 2 at takes_at) (cut_opt at cut_at) (λ o b ys m l. refl))

-- ---- a value in quotes
begun_still : (k m : ℕ) (r : Res ByteRange) → begun (shift mv_range k r) m ≡ begun r m
unfolding shift
begun_still k m (fail why) = refl
begun_still k m (ok (range l none) j) = refl
begun_still k m (ok (range l (some o)) j) = refl

module _ (text : List ℕ) (at s e n : ℕ) (q : quoted text at ≡ ok (in_quotes (span s e)) n) where
  -- its bytes, and the quote mark after them
  ahead_of_value : drop s text ≡ take (e - s) (drop s text) ++ 34 ∷ drop (suc e) text
  ahead_of_value =
      let w = quoted_ok text at n s e q in
      let l = tagged_within (bytes "\"") text e (omega arith) w.mark in
      let b : get_or text e 0 ≡ 34 = eqb-true (get_or text e 0) 34 (sym (tagged_byte 34 text e (omega arith)) ∙ w.mark) in
      let z : s + (e - s) ≡ e = omega (arith, w.bytes_there) in
      let d : drop (e - s) (drop s text) ≡ 34 ∷ drop (suc e) text = drop-drop (e - s) s text ∙ ap (λ (k : ℕ). drop k text) z ∙ drop-cons text e 0 (omega arith) ∙ ap (λ (x : ℕ). x ∷ drop (suc e) text) b in
      sym (take-append-drop (e - s) (drop s text)) ∙ ap (λ (r : List ℕ). take (e - s) (drop s text) ++ r) d

  -- read where it stands it is what it is on its own, the place after it moved on
  pub range_alone : byte_range_val text s ≡ shift mv_range s (byte_range_val (take (e - s) (drop s text)) 0)
  unfolding is_digit
  range_alone =
      let w = quoted_ok text at n s e q in
      let l = tagged_within (bytes "\"") text e (omega arith) w.mark in
      local_ahead mv_range byte_range_val range_local text s _ (omega (arith, w.bytes_there)) ahead_of_value ∙ ap (shift mv_range s) (cut_range 34 refl refl (take (e - s) (drop s text)) _ 0 zero-le)

  pub begun_alone : (m : ℕ) → begun (byte_range_val text s) m ≡ begun (byte_range_val (take (e - s) (drop s text)) 0) m
  begun_alone m = ap (λ (r : Res ByteRange). begun r m) range_alone ∙ begun_still s m (byte_range_val (take (e - s) (drop s text)) 0)

-- ---- what a list has under a name, as the Rust reads it
abbrev pub range_of_bytes : Option QuotedOrUnquoted → Parser (Option ByteRange)
range_of_bytes none = done none
range_of_bytes (some (bare s)) = λ text at. fail range_not_quoted
range_of_bytes (some (in_quotes (span s e))) = λ text at. begun (byte_range_val (take (e - s) (drop s text)) 0) at

pub range_of_alone : (text name : List ℕ) (at m : ℕ) → range_of (get text name (items (many0 next_pair text at))) text m ≡ range_of_bytes (get text name (items (many0 next_pair text at))) text m
range_of_alone text name at m = go (get text name (items (many0 next_pair text at))) refl
  where
    go : (v : Option QuotedOrUnquoted) → get text name (items (many0 next_pair text at)) ≡ v → range_of v text m ≡ range_of_bytes v text m
    go none f = refl
    go (some (bare s)) f = refl
    go (some (in_quotes (span s e))) f =
        let c = got text name at (in_quotes (span s e)) f in
        let w = next_quoted text c.from c.to c.left (span s e) c.read in
        begun_alone text w.0 s e w.1 w.2 m
