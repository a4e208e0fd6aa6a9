-- Rules whose failing depends on the line alone: where two texts go on with the same bytes and then a line's end, such a rule fails on both or on neither.
-- One law for each rule, so that the law of an alternation is the alternation written again. Assumes nothing.
use Prim.Native.Nat.{ℕ, suc, ◌+◌, ◌-◌, ◌*◌, ◌^◌, ◌≤◌, ◌<◌}
use mathlib.Core.Path.{◌≡◌, refl, sym, ◌∙◌, ap}
use mathlib.Core.Bool.{Bool, true, false, cond, not, ◌&&◌, ◌||◌, false≢true}
use mathlib.Core.List.{List, [], ◌∷◌, ◌++◌}
use native.Mathlib.Omega.{arith}
use native.Mathlib.Nat.{add-zero}
use lib.Dec.{ltb, eqb}
use lib.ListN.{length, drop, length-drop, length-append}
use lib.Seq.{drop-append-le, drop-drop}
use borrow.Author.Tests.{lt-ltb, eqb-true, ne_eqb}
use Rattle.text.specs.Why.{Why, other_text, no_digits, too_large, type_empty}
use Rattle.text.specs.Nom.{Res, fail, ok, Parser, span, bytes, is_digit, is_none_of, begins, tagged, run, run_end, decimal, when, or_else, or_none, bind, tag, take1, map, preceded}
use Rattle.text.specs.Util.{Parsed, fits, large, parse, parsed, or_fail, or_zero, number, number_or_zero, range, byte_range_val}
use Rattle.text.specs.BasicTags.{from_str, playlist_type}
use Rattle.text.proofs.Ahead.{Stops, tagged_ahead}
use Rattle.text.proofs.Laws.{and_left, and_right}
use Rattle.text.proofs.Local.{ltb_add}
use Rattle.text.proofs.Takes.{fail_not_ok}

-- ---- results that fail
abbrev pub Failed : {A : Type 0} → Res A → Type 0
Failed x = (why : Why) × (x ≡ fail why)

module _ {A : Type 0} where
  pub ok_failed : (x : Res A) (a : A) (n : ℕ) → x ≡ ok a n → Failed x → ⊥
  ok_failed x a n e f = fail_not_ok f.0 a n (sym f.1 ∙ e)

  pub alt_failed : (x y : Res A) → Failed (or_else x y) → Failed x × Failed y
  alt_failed (fail why) y f = ((why, refl), f)
  alt_failed (ok a n) y f = absurd (ok_failed (ok a n) a n refl f)

  pub failed_alt : (x y : Res A) → Failed x → Failed y → Failed (or_else x y)
  failed_alt x y f g = rw f.1 g

  pub failed_bind : {B : Type 0} (x : Res A) (k : A → ℕ → Res B) → Failed x → Failed (bind x k)
  failed_bind x k f = (f.0, rw f.1)

-- ---- how a line's bytes are asked
abbrev pub line_byte : ℕ → Bool
line_byte = is_none_of (bytes "\r\n")

-- a line's end: CR or LF
abbrev pub Breaks : List ℕ → Type 0
Breaks [] = ⊥
Breaks (x ∷ s) = line_byte x ≡ false

abbrev pub every : (ℕ → Bool) → List ℕ → Bool
every p [] = true
every p (x ∷ s) = p x && every p s

-- bytes of which none can be the next: a text of other bytes is there, or not, by what stands before
pub begins_before : (p : ℕ → Bool) (t l s : List ℕ) → every p t ≡ true → Stops p s → begins t (l ++ s) ≡ begins t l
unfolding begins
begins_before p [] l s h k = refl
begins_before p (y ∷ t) [] [] h k = refl
begins_before p (y ∷ t) [] (x ∷ s) h k = rw (ne_eqb x y (λ q. false≢true (sym k ∙ ap p q ∙ and_left (p y) (every p t) h)))
begins_before p (y ∷ t) (x ∷ l) s h k = rw (begins_before p t l s (and_right (p y) (every p t) h) k)

pub run_before : (p : ℕ → Bool) (l s : List ℕ) → Stops p s → run p (l ++ s) ≡ run p l
unfolding run
run_before p [] [] k = refl
run_before p [] (x ∷ s) k = rw k
run_before p (x ∷ l) s k = rw (run_before p l s k)

decimal_before : (acc : ℕ) (l s : List ℕ) → Stops is_digit s → decimal acc (l ++ s) ≡ decimal acc l
unfolding decimal
decimal_before acc [] [] k = refl
decimal_before acc [] (x ∷ s) k = rw k
decimal_before acc (x ∷ l) s k = rw (decimal_before (acc * 10 + (x - 48)) l s k)

run_long : (p : ℕ → Bool) (s : List ℕ) → run p s ≤ length s
unfolding run
run_long p [] = omega arith
run_long p (x ∷ s) = go (p x) (run_long p s)
  where
    go : (b : Bool) → run p s ≤ length s → cond b (suc (run p s)) 0 ≤ suc (length s)
    go true h = omega arith
    go false h = omega arith

-- what is there is the beginning
pub begins_split : (t l : List ℕ) → begins t l ≡ true → l ≡ t ++ drop (length t) l
unfolding begins
begins_split [] l e = refl
begins_split (y ∷ t) [] e = absurd (false≢true e)
begins_split (y ∷ t) (x ∷ l) e = rw (eqb-true x y (and_left (eqb x y) (begins t l) e)) (ap (λ (r : List ℕ). y ∷ r) (begins_split t l (and_right (eqb x y) (begins t l) e)))

-- a line's end is no digit
break_stops : (s : List ℕ) → Breaks s → Stops is_digit s
unfolding is_digit
break_stops [] k = tt
break_stops (x ∷ s) k = go (eqb 13 x) (eqb 10 x) refl refl k
  where
    go : (b c : Bool) → eqb 13 x ≡ b → eqb 10 x ≡ c → not (b || (c || false)) ≡ false → is_digit x ≡ false
    go true c p q k = rw (← eqb-true 13 x p)
    go false true p q k = rw (← eqb-true 10 x q)
    go false false p q k = absurd (false≢true (sym k))

break_ends : (s : List ℕ) → Breaks s → Stops line_byte s
break_ends [] k = tt
break_ends (x ∷ s) k = k

break_there : (s : List ℕ) → Breaks s → 0 < length s
break_there [] k = absurd k
break_there (x ∷ s) k = omega arith

-- ---- at a place, this line is ahead
pub record OnLine (text : List ℕ) (at : ℕ) (line : List ℕ) : Type 0 where
  pub rest : List ℕ
  pub ahead : drop at text ≡ line ++ rest
  pub ends : Breaks rest

abbrev pub Alike : {A : Type 0} → Parser A → Type 0
Alike p = (text : List ℕ) (at : ℕ) (text' : List ℕ) (at' : ℕ) (line : List ℕ) → OnLine text at line → OnLine text' at' line → Failed (p text at) → Failed (p text' at')

module _ (text : List ℕ) (at : ℕ) (line : List ℕ) (w : OnLine text at line) where
  -- a fixed text of a line's bytes
  module _ (t : List ℕ) (plain : every line_byte t ≡ true) where
    pub tagged_line : tagged t text at ≡ begins t line
    tagged_line = tagged_ahead text at t _ w.ahead ∙ begins_before line_byte t line w.rest plain (break_ends w.rest w.ends)

    past : begins t line ≡ true → OnLine text (at + length t) (drop (length t) line)
    past e =
        let l : length t ≤ length line = omega (arith, ap length (begins_split t line e), length-append t (drop (length t) line)) in
        record { rest = w.rest; ahead = sym (drop-drop (length t) at text) ∙ ap (drop (length t)) w.ahead ∙ drop-append-le (length t) line w.rest l; ends = w.ends }

  -- a run that a line's end ends
  run_line : (p : ℕ → Bool) → Stops p w.rest → run_end p text at ≡ at + run p line
  unfolding run_end
  run_line p k = rw (w.ahead, run_before p line w.rest k)

  some_line : (p : ℕ → Bool) → Stops p w.rest → ltb at (run_end p text at) ≡ ltb 0 (run p line)
  some_line p k = rw (run_line p k) (ap (λ (n : ℕ). ltb n (at + run p line)) (sym (add-zero at)) ∙ ltb_add at 0 (run p line))

  value_line : decimal 0 (drop at text) ≡ decimal 0 line
  value_line = ap (decimal 0) w.ahead ∙ decimal_before 0 line w.rest (break_stops w.rest w.ends)

-- ---- numbers: are there digits? does their value fit?
abbrev numbered : Bool → Bool → ℕ → ℕ → Res Parsed
numbered false fit v n = fail no_digits
numbered true fit v n = ok (cond fit (fits v) large) n

parsed_line : (text : List ℕ) (at : ℕ) (line : List ℕ) → OnLine text at line → parsed text at ≡ numbered (ltb 0 (run is_digit line)) (ltb (decimal 0 line) (2 ^ 64)) (decimal 0 line) (at + run is_digit line)
unfolding parsed
parsed_line text at line w =
    let k = break_stops w.rest w.ends in
    rw (some_line text at line w is_digit k, run_line text at line w is_digit k, value_line text at line w) (go (ltb 0 (run is_digit line)))
  where
    go : (b : Bool) → bind (when b no_digits (ok (decimal 0 line) (at + run is_digit line))) (λ v n. ok (parse v) n) ≡ numbered b (ltb (decimal 0 line) (2 ^ 64)) (decimal 0 line) (at + run is_digit line)
    go true = refl
    go false = refl

pub alike_number : Alike number
unfolding number
alike_number text at text' at' line w w' f =
    rw (parsed_line text' at' line w') (go (ltb 0 (run is_digit line)) (ltb (decimal 0 line) (2 ^ 64)) (rw (parsed_line text at line w) at f))
  where
    go : (b c : Bool) → Failed (bind (numbered b c (decimal 0 line) (at + run is_digit line)) (λ v n. or_fail v text n))
        → Failed (bind (numbered b c (decimal 0 line) (at' + run is_digit line)) (λ v n. or_fail v text' n))
    go false c f = (no_digits, refl)
    go true false f = (too_large, refl)
    go true true f = absurd (ok_failed _ _ _ refl f)

pub alike_number_or_zero : Alike number_or_zero
unfolding number_or_zero
alike_number_or_zero text at text' at' line w w' f =
    rw (parsed_line text' at' line w') (go (ltb 0 (run is_digit line)) (rw (parsed_line text at line w) at f))
  where
    fit : Bool
    fit = ltb (decimal 0 line) (2 ^ 64)

    go : (b : Bool) → Failed (bind (numbered b fit (decimal 0 line) (at + run is_digit line)) (λ v n. ok (or_zero v) n))
        → Failed (bind (numbered b fit (decimal 0 line) (at' + run is_digit line)) (λ v n. ok (or_zero v) n))
    go false f = (no_digits, refl)
    go true f = absurd (ok_failed _ _ _ refl f)

-- a range fails only for its first number
range_failed : (text : List ℕ) (at : ℕ) → Failed (byte_range_val text at) → Failed (number text at)
unfolding byte_range_val
range_failed text at f = go (number text at) f
  where
    more : (x : Res ℕ) (v n : ℕ) → Failed (bind (or_none x n) (λ o m. ok (range v o) m)) → ⊥
    more (fail why) v n f = ok_failed _ _ _ refl f
    more (ok o m) v n f = ok_failed _ _ _ refl f

    go : (x : Res ℕ) → Failed (bind x (λ v n. bind (or_none (bind (tag (bytes "@") text n) (λ _ m. number text m)) n) (λ o m. ok (range v o) m))) → Failed x
    go (fail why) f = (why, refl)
    go (ok v n) f = absurd (more (bind (tag (bytes "@") text n) (λ _ m. number text m)) v n f)

pub alike_range : Alike byte_range_val
unfolding byte_range_val
alike_range text at text' at' line w w' f = failed_bind (number text' at') _ (alike_number text at text' at' line w w' (range_failed text at f))

-- a type fails only where it is of no bytes
pub alike_type : Alike playlist_type
unfolding playlist_type
alike_type text at text' at' line w w' f =
    let k = break_ends w.rest w.ends in
    rw (some_line text' at' line w' line_byte (break_ends w'.rest w'.ends))
    (go (ltb 0 (run line_byte line)) (rw (some_line text at line w line_byte k, run_line text at line w line_byte k) at f))
  where
    byte_there : at + run line_byte line < length text
    byte_there = omega (arith, run_long line_byte line, break_there w.rest w.ends, length-drop at text, ap length w.ahead, length-append line w.rest)

    go : (b : Bool) → Failed (bind (when b type_empty (ok (span at (at + run line_byte line)) (at + run line_byte line))) (λ typ n. bind (take1 text n) (λ _ m. ok (from_str text typ) m)))
        → Failed (bind (when b type_empty (ok (span at' (run_end line_byte text' at')) (run_end line_byte text' at'))) (λ typ n. bind (take1 text' n) (λ _ m. ok (from_str text' typ) m)))
    go false f = (type_empty, refl)
    go true f = absurd (ok_failed _ _ _ refl (rw (lt-ltb (at + run line_byte line) (length text) byte_there) at f))

-- ---- behind a fixed text, and a fixed text alone
pub mark_failed : {A : Type 0} (t : List ℕ) (a : A) (b : Bool) (at at' : ℕ) → Failed (bind (when b other_text (ok (tt {0}) (at + length t))) (λ _ n. ok a n)) → Failed (bind (when b other_text (ok (tt {0}) (at' + length t))) (λ _ n. ok a n))
mark_failed t a false at at' f = (other_text, refl)
mark_failed t a true at at' f = absurd (ok_failed _ _ _ refl f)

module _ (t : List ℕ) (plain : every line_byte t ≡ true) where
  pub alike_mark : {A : Type 0} (a : A) → Alike (map (λ _. a) (tag t))
  alike_mark a text at text' at' line w w' f = rw (tagged_line text' at' line w' t plain) (mark_failed t a (begins t line) at at' (rw (tagged_line text at line w t plain) at f))

  pub alike_after : {A B : Type 0} (f : A → B) (p : Parser A) → Alike p → Alike (map f (preceded (tag t) p))
  alike_after f p l text at text' at' line w w' x = rw (tagged_line text' at' line w' t plain) (go (begins t line) refl (rw (tagged_line text at line w t plain) at x))
    where
      made : (y : Res _) → Failed (bind y (λ a n. ok (f a) n)) → Failed y
      made (fail why) z = (why, refl)
      made (ok a n) z = absurd (ok_failed _ _ _ refl z)

      go : (b : Bool) → begins t line ≡ b → Failed (bind (bind (when b other_text (ok (tt {0}) (at + length t))) (λ _ n. p text n)) (λ a n. ok (f a) n))
          → Failed (bind (bind (when b other_text (ok (tt {0}) (at' + length t))) (λ _ n. p text' n)) (λ a n. ok (f a) n))
      go false e x = (other_text, refl)
      go true e x =
          failed_bind (p text' (at' + length t)) (λ a n. ok (f a) n)
          (l text (at + length t) text' (at' + length t) (drop (length t) line) (past text at line w t plain e) (past text' at' line w' t plain e) (made (p text (at + length t)) x))
