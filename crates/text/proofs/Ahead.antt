-- What a rule does where the bytes ahead are known, `drop at text ≡ xs`: a law for each way in which a rule asks the text (a new way gets its own here).
-- Places and values stay as they are, and `on` goes past a part. Assumes nothing.
use Prim.Native.Nat.{ℕ, suc, ◌+◌, ◌-◌, ◌*◌, ◌^◌, ◌≤◌, ◌<◌}
use mathlib.Core.Path.{◌≡◌, refl, sym, ◌∙◌, ap}
use mathlib.Core.Bool.{Bool, true, false, cond, ◌&&◌, and-false}
use mathlib.Core.List.{List, [], ◌∷◌, ◌++◌}
use mathlib.Core.Option.{none}
use native.Mathlib.Omega.{arith}
use native.Mathlib.Nat.{add-zero, zero-add}
use lib.Dec.{ltb, eqb, eqb-suc-zero, eqb-suc-suc}
use lib.ListN.{length, drop, take, get_or, length-drop, take-append-drop}
use lib.Seq.{drop-append_seam, take-append_seam, length-take-le, drop-drop, get_or-drop}
use borrow.Author.Tests.{lt-ltb, le-ltb, eq-eqb}
use Rattle.text.specs.Why.{Why, type_empty, name_empty}
use Rattle.text.specs.Nom.{fail, ok, Parser, Span, span, bytes, is_digit, is_none_of, is_one_of, begins, tagged, after_tag, run, run_end, decimal, take_while1, span_or, opt_is_not, skip, take1, peek_none_of, take_until, digit1, not_line_ending}
use Rattle.text.specs.Util.{consume_line, parse, parsed, number, spells}
use Rattle.text.specs.BasicTags.{ext, ext_tag, comment_tag, PlaylistType, event, vod, other, playlist_type}
use Rattle.text.proofs.Local.{Local, shift, eqb_add}

-- every byte passes the test; the next does not, or there is none
unfoldable pub Every : (ℕ → Bool) → List ℕ → Type 0
Every p [] = Unit {0}
Every p (x ∷ xs) = (p x ≡ true) × Every p xs

abbrev pub Stops : (ℕ → Bool) → List ℕ → Type 0
Stops p [] = Unit {0}
Stops p (x ∷ xs) = p x ≡ false

-- a line ends here: by LF, or with the text
abbrev pub EndsLine : List ℕ → Type 0
EndsLine [] = Unit {0}
EndsLine (x ∷ xs) = x ≡ 10

pub every_append : (p : ℕ → Bool) (a b : List ℕ) → Every p a → Every p b → Every p (a ++ b)
unfolding Every
every_append p [] b h k = k
every_append p (x ∷ a) b h k = (h.0, every_append p a b h.1 k)

begins_self : (t xs : List ℕ) → begins t (t ++ xs) ≡ true
unfolding begins
begins_self [] xs = refl
begins_self (x ∷ t) xs = rw (eq-eqb x x refl) (begins_self t xs)

run_every : (p : ℕ → Bool) (b xs : List ℕ) → Every p b → Stops p xs → run p (b ++ xs) ≡ length b
unfolding run Every
run_every p [] [] h k = refl
run_every p [] (x ∷ xs) h k = rw k
run_every p (x ∷ b) xs h k = rw h.0 (ap suc (run_every p b xs h.1 k))

-- where a run has ended, it does not go on
run_stops : (p : ℕ → Bool) (s : List ℕ) → Stops p (drop (run p s) s)
unfolding run
run_stops p [] = tt
run_stops p (x ∷ s) = go (p x) refl (run_stops p s)
  where
    go : (b : Bool) → p x ≡ b → Stops p (drop (run p s) s) → Stops p (drop (cond b (suc (run p s)) 0) (x ∷ s))
    go true e ih = ih
    go false e ih = e

pub run_ends : (p : ℕ → Bool) (text : List ℕ) (at : ℕ) → Stops p (drop (run_end p text at) text)
unfolding run_end
run_ends p text at = rw (← drop-drop (run p (drop at text)) at text) (run_stops p (drop at text))

-- the value of digits, whatever follows them
pub decimal_every : (b xs : List ℕ) (acc : ℕ) → Every is_digit b → Stops is_digit xs → decimal acc (b ++ xs) ≡ decimal acc b
unfolding decimal Every
decimal_every [] [] acc h k = refl
decimal_every [] (x ∷ xs) acc h k = rw k
decimal_every (x ∷ b) xs acc h k = rw h.0 (decimal_every b xs (acc * 10 + (x - 48)) h.1 k)

-- where what was written stands
pub ahead : (pre xs : List ℕ) → drop (length pre) (pre ++ xs) ≡ xs
ahead pre xs = drop-append_seam pre xs

module _ (text : List ℕ) (at : ℕ) where
  -- past a part, to what follows it
  pub on : (a xs : List ℕ) → drop at text ≡ a ++ xs → drop (at + length a) text ≡ xs
  on a xs h = sym (drop-drop (length a) at text) ∙ ap (drop (length a)) h ∙ drop-append_seam a xs

  -- ---- the questions
  pub in_text : (x : ℕ) (xs : List ℕ) → drop at text ≡ x ∷ xs → at < length text
  in_text x xs h = omega (arith, length-drop at text, ap length h)

  pub in_ahead : (x : ℕ) (xs : List ℕ) → drop at text ≡ x ∷ xs → ltb at (length text) ≡ true
  in_ahead x xs h = lt-ltb at (length text) (in_text x xs h)

  pub out_text : drop at text ≡ [] → length text ≤ at
  out_text h = omega (arith, length-drop at text, ap length h)

  pub out_ahead : drop at text ≡ [] → ltb at (length text) ≡ false
  out_ahead h = le-ltb at (length text) (out_text h)

  pub byte_ahead : (x : ℕ) (xs : List ℕ) → drop at text ≡ x ∷ xs → get_or text at 0 ≡ x
  byte_ahead x xs h = ap (λ (n : ℕ). get_or text n 0) (sym (add-zero at)) ∙ sym (get_or-drop at text 0 0) ∙ ap (λ (l : List ℕ). get_or l 0 0) h

  pub tagged_ahead : (t xs : List ℕ) → drop at text ≡ xs → tagged t text at ≡ begins t xs
  unfolding tagged
  tagged_ahead t xs h = ap (begins t) h

  pub run_ahead : (p : ℕ → Bool) (b xs : List ℕ) → Every p b → Stops p xs → drop at text ≡ b ++ xs → run_end p text at ≡ at + length b
  unfolding run_end
  run_ahead p b xs e s h = rw (h, run_every p b xs e s)

  -- ---- what rules make of them
  pub tag_ahead : (t xs : List ℕ) → drop at text ≡ t ++ xs → tagged t text at ≡ true
  tag_ahead t xs h = tagged_ahead t (t ++ xs) h ∙ begins_self t xs

  pub after_ahead : (t xs : List ℕ) → drop at text ≡ t ++ xs → after_tag t text at ≡ at + length t
  unfolding after_tag
  after_ahead t xs h = rw (tag_ahead t xs h)

  pub after_not : (t xs : List ℕ) → drop at text ≡ xs → begins t xs ≡ false → after_tag t text at ≡ at
  unfolding after_tag
  after_not t xs h e = rw (tagged_ahead t xs h ∙ e)

  pub while1_ahead : (why : Why) (p : ℕ → Bool) (x : ℕ) (b xs : List ℕ) → Every p (x ∷ b) → Stops p xs → drop at text ≡ (x ∷ b) ++ xs
      → take_while1 why p text at ≡ ok (span at (at + length (x ∷ b))) (at + length (x ∷ b))
  while1_ahead why p x b xs e s h = rw (run_ahead p (x ∷ b) xs e s h, lt-ltb at (at + length (x ∷ b)) (omega arith))

  -- nothing where the part is empty. (In a chain, what succeeds at once has computed away: rewrite by `run_ahead` there, and for `skip`.)
  pub opt_is_not_ahead : (set b xs : List ℕ) → Every (is_none_of set) b → Stops (is_none_of set) xs → drop at text ≡ b ++ xs
      → opt_is_not set text at ≡ ok (span_or at (at + length b)) (at + length b)
  opt_is_not_ahead set b xs e s h = rw (run_ahead (is_none_of set) b xs e s h)

  pub skip_ahead : (set b xs : List ℕ) → Every (is_one_of set) b → Stops (is_one_of set) xs → drop at text ≡ b ++ xs → skip set text at ≡ ok tt (at + length b)
  skip_ahead set b xs e s h = rw (run_ahead (is_one_of set) b xs e s h)

  pub one_ahead : (x : ℕ) (xs : List ℕ) → drop at text ≡ x ∷ xs → take1 text at ≡ ok tt (at + 1)
  one_ahead x xs h = rw (in_ahead x xs h)

  pub peek_ahead : (set : List ℕ) (x : ℕ) (xs : List ℕ) → is_none_of set x ≡ true → drop at text ≡ x ∷ xs → peek_none_of set text at ≡ ok tt at
  peek_ahead set x xs e h = rw (in_ahead x xs h, byte_ahead x xs h, e)

  pub digit1_ahead : (x : ℕ) (b xs : List ℕ) → Every is_digit (x ∷ b) → Stops is_digit xs → drop at text ≡ (x ∷ b) ++ xs
      → digit1 text at ≡ ok (decimal 0 (x ∷ b)) (at + length (x ∷ b))
  digit1_ahead x b xs e s h = rw (run_ahead is_digit (x ∷ b) xs e s h, lt-ltb at (at + length (x ∷ b)) (omega arith), h, decimal_every (x ∷ b) xs 0 e s)

module _ (text : List ℕ) (at : ℕ) where
  pub until_ahead : (c b : List ℕ) (x : ℕ) (xs : List ℕ) → Every (is_none_of c) b → is_none_of c x ≡ false → drop at text ≡ b ++ x ∷ xs
      → take_until c text at ≡ ok (span at (at + length b)) (at + length b)
  until_ahead c b x xs e s h = rw (run_ahead text at (is_none_of c) b (x ∷ xs) e s h, in_ahead text (at + length b) x xs (on text at b (x ∷ xs) h))

  pub not_line_ending_ahead : (b xs : List ℕ) → Every (is_none_of (bytes "\r\n")) b → EndsLine xs → drop at text ≡ b ++ xs
      → not_line_ending text at ≡ ok (span at (at + length b)) (at + length b)
  unfolding begins
  not_line_ending_ahead b [] e s h = rw (run_ahead text at (is_none_of (bytes "\r\n")) b [] e tt h, tagged_ahead text (at + length b) (bytes "\r") [] (on text at b [] h))
  not_line_ending_ahead b (x ∷ xs) e s h =
      rw (run_ahead text at (is_none_of (bytes "\r\n")) b (x ∷ xs) e (rw s) h, tagged_ahead text (at + length b) (bytes "\r") (x ∷ xs) (on text at b (x ∷ xs) h), s)

  -- the part that a span shows, where it was written
  pub shows : (b xs : List ℕ) → drop at text ≡ b ++ xs → take (at + length b - at) (drop at text) ≡ b
  shows b xs h = let z : at + length b - at ≡ length b = omega arith in rw (z, h) (take-append_seam b xs)

-- a local rule does at a place what it does at the start of what is ahead; so where it fails there, it fails here
module _ {A : Type 0} (mv : ℕ → A → A) (p : Parser A) (l : Local mv p) (text : List ℕ) (at : ℕ) (xs : List ℕ) (h : at ≤ length text) (e : drop at text ≡ xs) where
  pub local_ahead : p text at ≡ shift mv at (p xs 0)
  local_ahead =
      let k : length (take at text) ≡ at = length-take-le at text h in
      let z : text ≡ take at text ++ xs = sym (take-append-drop at text) ∙ ap (λ (r : List ℕ). take at text ++ r) e in
      ap (λ (t : List ℕ). p t at) z ∙ ap (p (take at text ++ xs)) (sym (add-zero at) ∙ ap (λ (n : ℕ). n + 0) (sym k)) ∙ l (take at text) xs 0 ∙ ap (λ (n : ℕ). shift mv n (p xs 0)) k

  pub fails_ahead : (why : Why) → p xs 0 ≡ fail why → p text at ≡ fail why
  unfolding shift
  fails_ahead why f = local_ahead ∙ ap (shift mv at) f

-- ---- Util and BasicTags
-- a tag as long as the part is there by the part's bytes alone
begins_exact : (word b xs : List ℕ) → (begins word (b ++ xs) && eqb (length word) (length b)) ≡ (begins word b && eqb (length word) (length b))
unfolding begins
begins_exact [] b xs = refl
begins_exact (t ∷ ts) [] xs = rw (eqb-suc-zero (length ts)) (and-false (begins (t ∷ ts) xs))
begins_exact (t ∷ ts) (x ∷ b) xs = rw (eqb-suc-suc (length ts) (length b)) (go (eqb x t) (begins_exact ts b xs))
  where
    go : (c : Bool) → (begins ts (b ++ xs) && eqb (length ts) (length b)) ≡ (begins ts b && eqb (length ts) (length b))
        → ((c && begins ts (b ++ xs)) && eqb (length ts) (length b)) ≡ ((c && begins ts b) && eqb (length ts) (length b))
    go true ih = ih
    go false ih = refl

-- the type that these bytes name, where the span shows them
abbrev pub typed : List ℕ → Span → PlaylistType
typed b s = cond (spells b (span 0 (length b)) (bytes "EVENT")) event (cond (spells b (span 0 (length b)) (bytes "VOD")) vod (other s))

module _ (text : List ℕ) (at : ℕ) where
  -- a part spells a word by its own bytes, wherever it stands
  pub spells_ahead : (word b xs : List ℕ) → drop at text ≡ b ++ xs → spells text (span at (at + length b)) word ≡ spells b (span 0 (length b)) word
  unfolding spells tagged
  spells_ahead word b xs h = rw (h, eqb_add at (length word) (length b), zero-add (length word)) (begins_exact word b xs)

  -- digits, before anything else
  pub parsed_ahead : (x : ℕ) (b xs : List ℕ) → Every is_digit (x ∷ b) → Stops is_digit xs → drop at text ≡ (x ∷ b) ++ xs
      → parsed text at ≡ ok (parse (decimal 0 (x ∷ b))) (at + length (x ∷ b))
  unfolding parsed
  parsed_ahead x b xs e s h = rw (digit1_ahead text at x b xs e s h)

  pub number_ahead : (x : ℕ) (b xs : List ℕ) → Every is_digit (x ∷ b) → Stops is_digit xs → decimal 0 (x ∷ b) < 2 ^ 64 → drop at text ≡ (x ∷ b) ++ xs
      → number text at ≡ ok (decimal 0 (x ∷ b)) (at + length (x ∷ b))
  unfolding number
  number_ahead x b xs e s l h = rw (parsed_ahead x b xs e s h, lt-ltb (decimal 0 (x ∷ b)) (2 ^ 64) l)

  -- a line that LF ends, and one that the text ends
  pub line_ahead : (b xs : List ℕ) → Every (is_none_of (bytes "\r\n")) b → drop at text ≡ b ++ (bytes "\n" ++ xs)
      → consume_line text at ≡ ok (span at (at + length b)) (at + length b + 1)
  unfolding consume_line
  line_ahead b xs e h = rw (not_line_ending_ahead text at b (bytes "\n" ++ xs) e refl h, tag_ahead text (at + length b) (bytes "\n") xs (on text at b _ h))

  pub last_line_ahead : (b : List ℕ) → Every (is_none_of (bytes "\r\n")) b → drop at text ≡ b ++ [] → consume_line text at ≡ ok (span at (at + length b)) (at + length b)
  unfolding consume_line begins
  last_line_ahead b e h =
      let d = on text at b [] h in
      rw (not_line_ending_ahead text at b [] e tt h, tagged_ahead text (at + length b) (bytes "\n") [] d, tagged_ahead text (at + length b) (bytes "\r\n") [] d)

  -- an unknown tag with a rest, perhaps an empty one, and one without
  pub ext_ahead : (x : ℕ) (name rest xs : List ℕ) → Every (is_none_of (bytes "\r\n:")) (x ∷ name) → Every (is_none_of (bytes "\r\n")) rest
      → drop at text ≡ bytes "#EXT-" ++ ((x ∷ name) ++ (bytes ":" ++ (rest ++ (bytes "\n" ++ xs))))
      → (let a = at + 5 in let b = a + length (x ∷ name) in let c = b + 1 + length rest in ext_tag text at ≡ ok (ext (span a b) (span_or (b + 1) c)) (c + 1))
  unfolding ext_tag
  ext_ahead x name rest xs en er h0 =
      let a = at + 5 in
      let b = a + length (x ∷ name) in
      let c = b + 1 + length rest in
      let h1 = on text at (bytes "#EXT-") _ h0 in
      let h2 = on text a (x ∷ name) _ h1 in
      let h3 = on text b (bytes ":") _ h2 in
      rw (
        tag_ahead text at (bytes "#EXT-") _ h0,
        while1_ahead text a name_empty (is_none_of (bytes "\r\n:")) x name _ en refl h1,
        after_ahead text b (bytes ":") _ h2,
        run_ahead text (b + 1) (is_none_of (bytes "\r\n")) rest _ er refl h3,
        one_ahead text c 10 xs (on text (b + 1) rest _ h3),
      )

  pub ext_bare_ahead : (x : ℕ) (name xs : List ℕ) → Every (is_none_of (bytes "\r\n:")) (x ∷ name) → drop at text ≡ bytes "#EXT-" ++ ((x ∷ name) ++ (bytes "\n" ++ xs))
      → (let a = at + 5 in let b = a + length (x ∷ name) in ext_tag text at ≡ ok (ext (span a b) none) (b + 1))
  unfolding ext_tag begins Every
  ext_bare_ahead x name xs en h0 =
      let a = at + 5 in
      let b = a + length (x ∷ name) in
      let h1 = on text at (bytes "#EXT-") _ h0 in
      let h2 = on text a (x ∷ name) _ h1 in
      rw (
        tag_ahead text at (bytes "#EXT-") _ h0,
        while1_ahead text a name_empty (is_none_of (bytes "\r\n:")) x name _ en refl h1,
        after_not text b (bytes ":") _ h2 refl,
        run_ahead text b (is_none_of (bytes "\r\n")) [] _ tt refl h2,
        add-zero b,
        le-ltb b b (omega arith),
        one_ahead text b 10 xs h2,
      )

  pub comment_ahead : (b xs : List ℕ) → Every (is_none_of (bytes "\r\n")) b → drop at text ≡ bytes "#" ++ (b ++ (bytes "\n" ++ xs))
      → (let a = at + 1 in let c = a + length b in comment_tag text at ≡ ok (span_or a c) (c + 1))
  unfolding comment_tag
  comment_ahead b xs e h0 =
      let a = at + 1 in
      let c = a + length b in
      let h1 = on text at (bytes "#") _ h0 in
      rw (tag_ahead text at (bytes "#") _ h0, run_ahead text a (is_none_of (bytes "\r\n")) b _ e refl h1, one_ahead text c 10 xs (on text a b _ h1))

  -- a type, by its own bytes
  pub type_ahead : (x : ℕ) (b xs : List ℕ) → Every (is_none_of (bytes "\r\n")) (x ∷ b) → drop at text ≡ (x ∷ b) ++ (bytes "\n" ++ xs)
      → (let c = at + length (x ∷ b) in playlist_type text at ≡ ok (typed (x ∷ b) (span at c)) (c + 1))
  unfolding playlist_type
  type_ahead x b xs e h =
      let w = x ∷ b in
      rw (
        while1_ahead text at type_empty (is_none_of (bytes "\r\n")) x b _ e refl h,
        one_ahead text (at + length w) 10 xs (on text at w _ h),
        spells_ahead (bytes "EVENT") w _ h,
        spells_ahead (bytes "VOD") w _ h,
      )
