-- A rule is local: with more text before, it does the same, further on. What asks the text has a law of its own; what joins rules has one over two
-- RESULTS (in the longer text and in the shorter), so that a rule's own law is the rule written again. Assumes nothing.
use Prim.Native.Nat.{ℕ, zero, suc, ◌+◌, ◌-◌}
use mathlib.Core.Path.{◌≡◌, refl, ap}
use mathlib.Core.Bool.{Bool, true, false, cond, not, ◌&&◌, ◌||◌}
use mathlib.Core.List.{List, ◌++◌, map as map_list}
use mathlib.Core.Option.{Option, none, some}
use native.Mathlib.Omega.{arith}
use native.Mathlib.Nat.{add_assoc}
use lib.Dec.{ltb, eqb}
use lib.ListN.{length, drop, get_or, length-append}
use lib.Seq.{drop-append-add, get_or-append-add}
use borrow.Author.Tests.{ltb-true, ltb-false, lt-ltb, le-ltb, eqb-true, eqb-false, eq-eqb, ne_eqb}
use Rattle.text.specs.Why.{Why, other_text, no_digits, missing_byte, too_large, type_empty, name_empty, lone_cr}
use Rattle.text.specs.Nom.{Res, fail, ok, Parser, Span, span, bytes, is_digit, is_none_of, is_one_of, tagged, after_tag, run_end, decimal, when, or_else, or_none, bind, tag, opt_tag, take_while1, is_not, span_or, opt_is_not, skip, take1, peek_none_of, take_until, digit1, not_line_ending, place, preceded, peek_take1}
use Rattle.text.specs.Many.{Many, many, push, go_on, collected, many0, many_turns}
use Rattle.text.specs.Util.{consume_line, Parsed, fits, large, parse, parsed, or_fail, or_zero, number, number_or_zero, ByteRange, range, byte_range_val, spells}
use Rattle.text.specs.BasicTags.{m3u_tag, ExtTag, ext, ext_tag, comment_tag, PlaylistType, event, vod, other, from_str, playlist_type}

-- ---- how values move by k places
abbrev pub still : {A : Type 0} → ℕ → A → A
still k a = a

abbrev pub mv_span : ℕ → Span → Span
mv_span k (span a b) = span (k + a) (k + b)

abbrev pub mv_opt : {A : Type 0} → (ℕ → A → A) → ℕ → Option A → Option A
mv_opt mv k none = none
mv_opt mv k (some a) = some (mv k a)

abbrev pub mv_range : ℕ → ByteRange → ByteRange
mv_range k (range n o) = range n (mv_opt still k o)

abbrev pub mv_ext : ℕ → ExtTag → ExtTag
mv_ext k (ext name rest) = ext (mv_span k name) (mv_opt mv_span k rest)

abbrev pub mv_type : ℕ → PlaylistType → PlaylistType
mv_type k event = event
mv_type k vod = vod
mv_type k (other s) = other (mv_span k s)

abbrev pub mv_many : {A : Type 0} → (ℕ → A → A) → ℕ → Many A → Many A
mv_many mv k (many xs n) = many (map_list (mv k) xs) (k + n)

-- (shut: so that `_` is found below it)
unfoldable pub shift : {A : Type 0} → (ℕ → A → A) → ℕ → Res A → Res A
shift mv k (fail why) = fail why
shift mv k (ok a n) = ok (mv k a) (k + n)

-- `mv` says how the values of p move: `still`, `mv_span`, ..
abbrev pub Local : {A : Type 0} → (ℕ → A → A) → Parser A → Type 0
Local mv p = (pre xs : List ℕ) (n : ℕ) → p (pre ++ xs) (length pre + n) ≡ shift mv (length pre) (p xs n)

-- ---- the three questions, and the place itself
pub ltb_add : (k a b : ℕ) → ltb (k + a) (k + b) ≡ ltb a b
ltb_add k a b = go (ltb a b) refl
  where
    go : (c : Bool) → ltb a b ≡ c → ltb (k + a) (k + b) ≡ c
    go true q = lt-ltb (k + a) (k + b) (let z = ltb-true a b q in omega arith)
    go false q = le-ltb (k + a) (k + b) (let z = ltb-false a b q in omega arith)

pub eqb_add : (k a b : ℕ) → eqb (k + a) (k + b) ≡ eqb a b
eqb_add k a b = go (eqb a b) refl
  where
    go : (c : Bool) → eqb a b ≡ c → eqb (k + a) (k + b) ≡ c
    go true q = eq-eqb (k + a) (k + b) (ap (λ (n : ℕ). k + n) (eqb-true a b q))
    go false q = ne_eqb (k + a) (k + b) (λ z. eqb-false a b q (omega arith))

module _ (pre xs : List ℕ) (n : ℕ) where
  pub tagged_moves : (t : List ℕ) → tagged t (pre ++ xs) (length pre + n) ≡ tagged t xs n
  unfolding tagged
  tagged_moves t = rw (drop-append-add pre xs n)

  pub run_moves : (p : ℕ → Bool) → run_end p (pre ++ xs) (length pre + n) ≡ length pre + run_end p xs n
  unfolding run_end
  run_moves p = rw (drop-append-add pre xs n) (add_assoc _ _ _)

  pub in_moves : ltb (length pre + n) (length (pre ++ xs)) ≡ ltb n (length xs)
  in_moves = rw (length-append pre xs) (ltb_add (length pre) n (length xs))

  pub after_moves : (t : List ℕ) → after_tag t (pre ++ xs) (length pre + n) ≡ length pre + after_tag t xs n
  unfolding after_tag
  after_moves t = rw (tagged_moves t) (go (tagged t xs n))
    where
      go : (b : Bool) → cond b (length pre + n + length t) (length pre + n) ≡ length pre + cond b (n + length t) n
      go true = add_assoc _ _ _
      go false = refl

pub spells_moves : (pre xs : List ℕ) (s : Span) (word : List ℕ) → spells (pre ++ xs) (mv_span (length pre) s) word ≡ spells xs s word
unfolding spells
spells_moves pre xs (span a b) word = rw (tagged_moves pre xs a word, add_assoc (length pre) a (length word), eqb_add (length pre) (a + length word) b)

-- ---- results, and what joins them: q in the longer text, p in the shorter
module _ {A : Type 0} (mv : ℕ → A → A) (k : ℕ) where
  -- the last of a chain
  pub done_moves : (a : A) (n : ℕ) → ok (mv k a) (k + n) ≡ shift mv k (ok a n)
  unfolding shift
  done_moves a n = refl

  pub fail_moves : (why : Why) → fail why ≡ shift mv k (fail why)
  unfolding shift
  fail_moves why = refl

  pub when_moves : (b : Bool) (why : Why) (a : A) (n : ℕ) → when b why (ok (mv k a) (k + n)) ≡ shift mv k (when b why (ok a n))
  when_moves true why a n = done_moves a n
  when_moves false why a n = fail_moves why

  pub opt_moves : (n : ℕ) (q p : Res A) → q ≡ shift mv k p → or_none q (k + n) ≡ shift (mv_opt mv) k (or_none p n)
  unfolding shift
  opt_moves n q (fail why) h = rw h
  opt_moves n q (ok a m) h = rw h

  pub alt_moves : (q p q' p' : Res A) → q ≡ shift mv k p → q' ≡ shift mv k p' → or_else q q' ≡ shift mv k (or_else p p')
  unfolding shift
  alt_moves q (fail why) q' p' h h' = rw h h'
  alt_moves q (ok a m) q' p' h h' = rw h

  pub verify_moves : (why : Why) (t : A → Bool) (q p : Res A) → ((a : A) → t (mv k a) ≡ t a) → q ≡ shift mv k p
      → bind q (λ a m. when (t a) why (ok a m)) ≡ shift mv k (bind p (λ a m. when (t a) why (ok a m)))
  unfolding shift
  verify_moves why t q (fail w) e h = rw h
  verify_moves why t q (ok a m) e h = rw (h, e a) (when_moves (t a) why a m)

module _ {A B : Type 0} (mv : ℕ → A → A) (nv : ℕ → B → B) (k : ℕ) where
  -- also `preceded` and `map`
  pub bind_moves : (q p : Res A) (g f : A → ℕ → Res B) → q ≡ shift mv k p → ((a : A) (m : ℕ) → g (mv k a) (k + m) ≡ shift nv k (f a m)) → bind q g ≡ shift nv k (bind p f)
  unfolding shift
  bind_moves q (fail why) g f h e = rw h
  bind_moves q (ok a m) g f h e = rw h (e a m)

-- ---- what asks the text
pub tag_local : (t : List ℕ) → Local still (tag t)
tag_local t pre xs n = rw (tagged_moves pre xs n t, add_assoc (length pre) n (length t)) (when_moves still (length pre) (tagged t xs n) other_text tt (n + length t))

pub opt_tag_local : (t : List ℕ) → Local still (opt_tag t)
opt_tag_local t pre xs n = rw (after_moves pre xs n t) (done_moves still (length pre) tt (after_tag t xs n))

pub while1_local : (why : Why) (p : ℕ → Bool) → Local mv_span (take_while1 why p)
while1_local why p pre xs n =
    let e = run_end p xs n in
    rw (run_moves pre xs n p, ltb_add (length pre) n e) (when_moves mv_span (length pre) (ltb n e) why (span n e) e)

pub is_not_local : (why : Why) (set : List ℕ) → Local mv_span (is_not why set)
is_not_local why set = while1_local why (is_none_of set)

pub span_or_moves : (k s e : ℕ) → span_or (k + s) (k + e) ≡ mv_opt mv_span k (span_or s e)
span_or_moves k s e = rw (ltb_add k s e) (go (ltb s e))
  where
    go : (b : Bool) → cond b (some (span (k + s) (k + e))) none ≡ mv_opt mv_span k (cond b (some (span s e)) none)
    go true = refl
    go false = refl

pub opt_is_not_local : (set : List ℕ) → Local (mv_opt mv_span) (opt_is_not set)
opt_is_not_local set pre xs n =
    let e = run_end (is_none_of set) xs n in
    rw (run_moves pre xs n (is_none_of set), span_or_moves (length pre) n e) (done_moves (mv_opt mv_span) (length pre) (span_or n e) e)

pub skip_local : (set : List ℕ) → Local still (skip set)
skip_local set pre xs n = rw (run_moves pre xs n (is_one_of set)) (done_moves still (length pre) tt (run_end (is_one_of set) xs n))

pub one_local : Local still take1
one_local pre xs n = rw (in_moves pre xs n, add_assoc (length pre) n 1) (when_moves still (length pre) (ltb n (length xs)) missing_byte tt (n + 1))

pub peek_one_local : Local still peek_take1
peek_one_local pre xs n = rw (in_moves pre xs n) (when_moves still (length pre) (ltb n (length xs)) missing_byte tt n)

pub peek_local : (set : List ℕ) → Local still (peek_none_of set)
peek_local set pre xs n = rw (in_moves pre xs n, get_or-append-add pre xs n 0) (when_moves still (length pre) (ltb n (length xs) && is_none_of set (get_or xs n 0)) missing_byte tt n)

pub until_local : (c : List ℕ) → Local mv_span (take_until c)
until_local c pre xs n =
    let e = run_end (is_none_of c) xs n in
    rw (run_moves pre xs n (is_none_of c), in_moves pre xs e) (when_moves mv_span (length pre) (ltb e (length xs)) other_text (span n e) e)

pub digits_local : Local still digit1
digits_local pre xs n =
    let e = run_end is_digit xs n in
    rw (run_moves pre xs n is_digit, ltb_add (length pre) n e, drop-append-add pre xs n) (when_moves still (length pre) (ltb n e) no_digits (decimal 0 (drop n xs)) e)

pub not_line_ending_local : Local mv_span not_line_ending
not_line_ending_local pre xs n =
    let e = run_end (is_none_of (bytes "\r\n")) xs n in
    rw (run_moves pre xs n (is_none_of (bytes "\r\n")), tagged_moves pre xs e (bytes "\r"), tagged_moves pre xs e (bytes "\r\n"))
    (when_moves mv_span (length pre) (not (tagged (bytes "\r") xs e) || tagged (bytes "\r\n") xs e) lone_cr (span n e) e)

pub place_local : Local (λ k n. k + n) place
place_local pre xs n = done_moves (λ k n. k + n) (length pre) n n

-- ---- a rule again and again: each item moves, and the place where it stops
module _ {A : Type 0} (mv : ℕ → A → A) where
  push_moves : (k : ℕ) (a : A) (m : Many A) → push (mv k a) (mv_many mv k m) ≡ mv_many mv k (push a m)
  push_moves k a (many xs n) = refl

  collected_moves : (k : ℕ) (m : Many A) → collected (mv_many mv k m) ≡ shift (λ k. map_list (mv k)) k (collected m)
  unfolding shift
  collected_moves k (many xs n) = refl

  module _ (p : Parser A) (l : Local mv p) (pre xs : List ℕ) where
    turns_moves : (f n : ℕ) → many_turns p (pre ++ xs) f (length pre + n) ≡ mv_many mv (length pre) (many_turns p xs f n)
    unfolding many_turns shift
    turns_moves zero n = refl
    turns_moves (suc f) n = rw (l pre xs n) (go (p xs n) (λ m. turns_moves f m))
      where
        go : (r : Res A) → ((m : ℕ) → many_turns p (pre ++ xs) f (length pre + m) ≡ mv_many mv (length pre) (many_turns p xs f m))
            → go_on (shift mv (length pre) r) (length pre + n) (λ m. many_turns p (pre ++ xs) f m) ≡ mv_many mv (length pre) (go_on r n (λ m. many_turns p xs f m))
        go (fail why) ih = refl
        go (ok a m) ih = rw (ih m) (push_moves (length pre) a (many_turns p xs f m))

    pub many0_moves : (n : ℕ) → many0 p (pre ++ xs) (length pre + n) ≡ mv_many mv (length pre) (many0 p xs n)
    unfolding many0
    many0_moves n = let z : length (pre ++ xs) - (length pre + n) ≡ length xs - n = omega (arith, length-append pre xs) in rw z (turns_moves (length xs - n) n)

  pub many_local : (p : Parser A) → Local mv p → Local (λ k. map_list (mv k)) (λ text at. collected (many0 p text at))
  many_local p l pre xs n = rw (many0_moves p l pre xs n) (collected_moves (length pre) (many0 p xs n))

-- ---- Util
pub line_local : Local mv_span consume_line
unfolding consume_line
line_local pre xs n =
    bind_moves mv_span mv_span _ _ _ _ _ (not_line_ending_local pre xs n) (λ line n.
    bind_moves (mv_opt still) mv_span _ _ _ _ _ (opt_moves still _ n _ _ (alt_moves still _ _ _ _ _ (tag_local (bytes "\n") pre xs n) (tag_local (bytes "\r\n") pre xs n))) (λ _ n.
    done_moves mv_span _ line n))

pub parsed_local : Local still parsed
unfolding parsed
parsed_local pre xs n = bind_moves still still _ _ _ _ _ (digits_local pre xs n) (λ v n. done_moves still _ (parse v) n)

or_fail_local : (v : Parsed) → Local still (or_fail v)
or_fail_local (fits v) = λ pre xs n. done_moves still _ v n
or_fail_local large = λ pre xs n. fail_moves still _ too_large

pub number_local : Local still number
unfolding number
number_local pre xs n = bind_moves still still _ _ _ _ _ (parsed_local pre xs n) (λ v n. or_fail_local v pre xs n)

pub number_or_zero_local : Local still number_or_zero
unfolding number_or_zero
number_or_zero_local pre xs n = bind_moves still still _ _ _ _ _ (parsed_local pre xs n) (λ v n. done_moves still _ (or_zero v) n)

at_number_local : Local still (preceded (tag (bytes "@")) number)
at_number_local pre xs n = bind_moves still still _ _ _ _ _ (tag_local (bytes "@") pre xs n) (λ _ n. number_local pre xs n)

pub range_local : Local mv_range byte_range_val
unfolding byte_range_val
range_local pre xs n =
    bind_moves still mv_range _ _ _ _ _ (number_local pre xs n) (λ v n.
    bind_moves (mv_opt still) mv_range _ _ _ _ _ (opt_moves still _ n _ _ (at_number_local pre xs n)) (λ o n.
    done_moves mv_range _ (range v o) n))

-- ---- BasicTags
pub m3u_local : Local still m3u_tag
unfolding m3u_tag
m3u_local = tag_local (bytes "#EXTM3U")

-- `opt_tag` and `opt_is_not` succeed at once: rewrite, and go on from there
pub ext_local : Local mv_ext ext_tag
unfolding ext_tag
ext_local pre xs n =
    bind_moves still mv_ext _ _ _ _ _ (tag_local (bytes "#EXT-") pre xs n) (λ _ n.
    bind_moves mv_span mv_ext _ _ _ _ _ (is_not_local name_empty (bytes "\r\n:") pre xs n) (λ name n.
    let m = after_tag (bytes ":") xs n in
    let e = run_end (is_none_of (bytes "\r\n")) xs m in
    rw (after_moves pre xs n (bytes ":"), run_moves pre xs m (is_none_of (bytes "\r\n")), span_or_moves (length pre) m e)
    (bind_moves still mv_ext _ _ _ _ _ (one_local pre xs e) (λ _ n.
    done_moves mv_ext _ (ext name (span_or m e)) n))))

pub comment_local : Local (mv_opt mv_span) comment_tag
unfolding comment_tag
comment_local pre xs n =
    bind_moves still (mv_opt mv_span) _ _ _ _ _ (tag_local (bytes "#") pre xs n) (λ _ n.
    let e = run_end (is_none_of (bytes "\r\n")) xs n in
    rw (run_moves pre xs n (is_none_of (bytes "\r\n")), span_or_moves (length pre) n e)
    (bind_moves still (mv_opt mv_span) _ _ _ _ _ (one_local pre xs e) (λ _ m.
    done_moves (mv_opt mv_span) _ (span_or n e) m)))

from_str_moves : (pre xs : List ℕ) (typ : Span) → from_str (pre ++ xs) (mv_span (length pre) typ) ≡ mv_type (length pre) (from_str xs typ)
from_str_moves pre xs typ = rw (spells_moves pre xs typ (bytes "EVENT"), spells_moves pre xs typ (bytes "VOD")) (go (spells xs typ (bytes "EVENT")) (spells xs typ (bytes "VOD")))
  where
    go : (b c : Bool) → cond b event (cond c vod (other (mv_span (length pre) typ))) ≡ mv_type (length pre) (cond b event (cond c vod (other typ)))
    go true c = refl
    go false true = refl
    go false false = refl

pub type_local : Local mv_type playlist_type
unfolding playlist_type
type_local pre xs n =
    bind_moves mv_span mv_type _ _ _ _ _ (is_not_local type_empty (bytes "\r\n") pre xs n) (λ typ n.
    bind_moves still mv_type _ _ _ _ _ (one_local pre xs n) (λ _ n.
    rw (from_str_moves pre xs typ) (done_moves mv_type _ (from_str xs typ) n)))
