-- How far a rule goes: `Takes k p` says that where p succeeds it takes at least k bytes and, if it moved at all, is within the text. One law for each
-- combinator, so that a rule's own law is the rule written again. Assumes nothing.
use Prim.Native.Nat.{ℕ, zero, suc, ◌+◌, ◌-◌, ◌≤◌, ◌<◌}
use mathlib.Core.Path.{◌≡◌, refl, sym, ◌∙◌}
use mathlib.Core.Bool.{Bool, true, false, cond, not, ◌&&◌, ◌||◌, false≢true, or-true}
use mathlib.Core.List.{List}
use mathlib.Core.Option.{Option}
use native.Mathlib.Omega.{arith}
use lib.Dec.{ltb, eqb}
use lib.ListN.{length, get_or}
use borrow.Author.Tests.{ltb-true, ltb-false, eqb-true, eq-eqb}
use Rattle.text.specs.Why.{Why, other_text, no_digits, missing_byte, type_empty, name_empty, too_large, lone_cr}
use Rattle.text.specs.Nom.{Res, fail, ok, Parser, Span, span, bytes, is_digit, is_none_of, is_one_of, tagged, after_tag, run_end, when, or_else, or_none, bind, tag, opt_tag, take_while1, is_not, opt_is_not, skip, take1, peek_none_of, take_until, digit1, not_line_ending, opt, alt, done, place, verify, map, preceded, ◌>>=◌, multispace0, space0, peek_take1}
use Rattle.text.specs.Many.{many0, many_turns, go_on, stop, collected, Many, many}
use Rattle.text.specs.Util.{consume_line, Parsed, fits, large, parse, parsed, or_fail, or_zero, number, number_or_zero, range, byte_range_val}
use Rattle.text.specs.BasicTags.{m3u_tag, ext, ext_tag, comment_tag, playlist_type, from_str}
use Rattle.text.proofs.Laws.{run_from, run_within, run_step, run_stop, tagged_within, tagged_byte}
use Rattle.text.proofs.Many.{Falls, stop_push}

-- from `at` to n: at least k bytes and, if any, within the text
abbrev pub Went : ℕ → List ℕ → ℕ → ℕ → Type 0
Went k text at n = (at + k ≤ n) × (at < n → n ≤ length text)

abbrev pub Takes : {A : Type 0} → ℕ → Parser A → Type 0
Takes {A} k p = (text : List ℕ) (at n : ℕ) (a : A) → p text at ≡ ok a n → Went k text at n

-- ---- ways from place to place
module _ (text : List ℕ) (at : ℕ) where
  pub went_none : Went 0 text at at
  went_none = (omega arith, λ h. omega arith)

  pub went_run : (p : ℕ → Bool) → Went 0 text at (run_end p text at)
  went_run p = (omega (arith, run_from p text at), run_within p text at)

  pub went_less : (j k n : ℕ) → j ≤ k → Went k text at n → Went j text at n
  went_less j k n h w = (omega (arith, w.0), w.1)

  pub went_within : (k n : ℕ) → Went k text at n → at ≤ length text → n ≤ length text
  went_within k n w h = go (ltb at n) refl
    where
      go : (b : Bool) → ltb at n ≡ b → n ≤ length text
      go true q = w.1 (ltb-true at n q)
      go false q = omega (arith, ltb-false at n q)

  pub went_on : (j k m n : ℕ) → Went j text at m → Went k text m n → Went (j + k) text at n
  went_on j k m n x y = (omega (arith, x.0, y.0), λ h. go (ltb m n) refl h)
    where
      go : (b : Bool) → ltb m n ≡ b → at < n → n ≤ length text
      go true q h = y.1 (ltb-true m n q)
      go false q h = let z : n ≡ m = omega (arith, y.0, ltb-false m n q) in rw z (x.1 (omega arith))

-- ---- results that succeed
module _ {A : Type 0} where
  pub fail_not_ok : (why : Why) (a : A) (n : ℕ) → fail why ≡ ok a n → ⊥
  fail_not_ok why a n e = let z : ◌≡◌ {A = ℕ} 0 1 = cc in omega arith

  -- where a test's result succeeds, the test holds, and the value and the place are its own
  pub when_ok : (b : Bool) (why : Why) (v a : A) (m n : ℕ) → when b why (ok v m) ≡ ok a n → (b ≡ true) × (v ≡ a) × (m ≡ n)
  when_ok true why v a m n e = (refl, cc, cc)
  when_ok false why v a m n e = absurd (fail_not_ok why a n e)

  -- a rule that is a test and then a place
  pub when_went : (k : ℕ) (text : List ℕ) (at n : ℕ) (a : A) (b : Bool) (why : Why) (v : A) (m : ℕ) → (b ≡ true → Went k text at m) → when b why (ok v m) ≡ ok a n → Went k text at n
  when_went k text at n a b why v m h e = let w = when_ok b why v a m n e in rw (← w.2) (h w.0)

-- where a chain succeeds, its first rule did, and the rest from there
pub bind_ok : {A B : Type 0} (r : Res A) (k : A → ℕ → Res B) (b : B) (n : ℕ) → bind r k ≡ ok b n → (a : A) × (m : ℕ) × (r ≡ ok a m) × (k a m ≡ ok b n)
bind_ok (fail why) k b n e = absurd (fail_not_ok why b n e)
bind_ok (ok a m) k b n e = (a, m, refl, e)

-- ---- what asks the text
pub takes_tag : (t : List ℕ) → Takes (length t) (tag t)
takes_tag t text at n a = when_went (length t) text at n a (tagged t text at) other_text tt (at + length t) (λ q. (omega arith, λ h. tagged_within t text at (omega arith) q))

pub takes_opt_tag : (t : List ℕ) → Takes 0 (opt_tag t)
unfolding after_tag
takes_opt_tag t text at n a e = let z : after_tag t text at ≡ n = cc in rw (← z) (go (tagged t text at) refl)
  where
    go : (b : Bool) → tagged t text at ≡ b → Went 0 text at (cond b (at + length t) at)
    go true q = (omega arith, λ h. tagged_within t text at (omega arith) q)
    go false q = went_none text at

pub takes_while1 : (why : Why) (p : ℕ → Bool) → Takes 1 (take_while1 why p)
takes_while1 why p text at n a =
    when_went 1 text at n a (ltb at (run_end p text at)) why _ (run_end p text at) (λ q. (omega (arith, ltb-true at (run_end p text at) q), run_within p text at))

pub takes_is_not : (why : Why) (set : List ℕ) → Takes 1 (is_not why set)
takes_is_not why set = takes_while1 why (is_none_of set)

pub takes_opt_is_not : (set : List ℕ) → Takes 0 (opt_is_not set)
takes_opt_is_not set text at n a e = let z : run_end (is_none_of set) text at ≡ n = cc in rw (← z) (went_run text at (is_none_of set))

pub takes_skip : (set : List ℕ) → Takes 0 (skip set)
takes_skip set text at n a e = let z : run_end (is_one_of set) text at ≡ n = cc in rw (← z) (went_run text at (is_one_of set))

pub takes_multispace0 : Takes 0 multispace0
takes_multispace0 = takes_skip (bytes " \t\r\n")

pub takes_space0 : Takes 0 space0
takes_space0 = takes_skip (bytes " \t")

pub takes_one : Takes 1 take1
takes_one text at n a = when_went 1 text at n a (ltb at (length text)) missing_byte tt (at + 1) (λ q. (omega arith, λ h. omega (arith, ltb-true at (length text) q)))

pub takes_peek_one : Takes 0 peek_take1
takes_peek_one text at n a = when_went 0 text at n a (ltb at (length text)) missing_byte tt at (λ q. went_none text at)

pub takes_peek : (set : List ℕ) → Takes 0 (peek_none_of set)
takes_peek set text at n a = when_went 0 text at n a (ltb at (length text) && is_none_of set (get_or text at 0)) missing_byte tt at (λ q. went_none text at)

pub takes_until : (c : List ℕ) → Takes 0 (take_until c)
takes_until c text at n a = when_went 0 text at n a (ltb (run_end (is_none_of c) text at) (length text)) other_text _ (run_end (is_none_of c) text at) (λ q. went_run text at (is_none_of c))

pub takes_digits : Takes 1 digit1
takes_digits text at n a =
    when_went 1 text at n a (ltb at (run_end is_digit text at)) no_digits _ (run_end is_digit text at) (λ q. (omega (arith, ltb-true at (run_end is_digit text at) q), run_within is_digit text at))

pub takes_not_line_ending : Takes 0 not_line_ending
takes_not_line_ending text at n a e =
    let m = run_end (is_none_of (bytes "\r\n")) text at in
    when_went 0 text at n a (not (tagged (bytes "\r") text m) || tagged (bytes "\r\n") text m) lone_cr _ m (λ q. went_run text at (is_none_of (bytes "\r\n"))) e

-- a value of the text and the place, with nothing taken
pub takes_here : {A : Type 0} (f : List ℕ → ℕ → A) → Takes 0 (λ text at. ok (f text at) at)
takes_here f text at n a e = let z : at ≡ n = cc in rw (← z) (went_none text at)

pub takes_done : {A : Type 0} (a : A) → Takes 0 (done a)
takes_done a = takes_here (λ text at. a)

pub takes_place : Takes 0 place
takes_place = takes_here (λ text at. at)

-- ---- what joins rules
module _ {A B : Type 0} (j k : ℕ) (p : Parser A) where
  -- also `preceded`
  pub takes_bind : (q : A → Parser B) → Takes j p → ((a : A) → Takes k (q a)) → Takes (j + k) (p >>= q)
  takes_bind q hp hq text at n b e =
      let f = bind_ok (p text at) (λ a m. q a text m) b n e in
      went_on text at j k f.1 n (hp text at f.1 f.0 f.2) (hq f.0 text f.1 n b f.3)

pub takes_less : {A : Type 0} (j k : ℕ) → j ≤ k → (p : Parser A) → Takes k p → Takes j p
takes_less j k h p w text at n a e = went_less text at j k n h (w text at n a e)

module _ {A : Type 0} (k : ℕ) where
  pub takes_alt : (p q : Parser A) → Takes k p → Takes k q → Takes k (alt p q)
  takes_alt p q hp hq text at n a e = go (p text at) refl e
    where
      go : (r : Res A) → p text at ≡ r → or_else r (q text at) ≡ ok a n → Went k text at n
      go (fail why) f e = hq text at n a e
      go (ok b m) f e = hp text at n a (f ∙ e)

  pub takes_opt : (p : Parser A) → Takes k p → Takes 0 (opt p)
  takes_opt p h text at n a e = go (p text at) refl e
    where
      go : (r : Res A) → p text at ≡ r → or_none r at ≡ ok a n → Went 0 text at n
      go (fail why) f e = let z : at ≡ n = cc in rw (← z) (went_none text at)
      go (ok b m) f e = let z : m ≡ n = cc in rw (← z) (went_less text at 0 k m (omega arith) (h text at m b f))

  pub takes_map : {B : Type 0} (f : B → A) (p : Parser B) → Takes k p → Takes k (map f p)
  takes_map f p h text at n a e = let w = takes_bind k 0 p (λ b. done (f b)) h (λ b. takes_done (f b)) text at n a e in went_less text at k (k + 0) n (omega arith) w

  pub takes_verify : (why : Why) (t : A → Bool) (p : Parser A) → Takes k p → Takes k (verify why t p)
  takes_verify why t p h text at n a e =
      let w = takes_bind k 0 p (λ b text at. when (t b) why (ok b at)) h (λ b text at n a. when_went 0 text at n a (t b) why b at (λ q. went_none text at)) text at n a e in
      went_less text at k (k + 0) n (omega arith) w

  pub takes_within : (p : Parser A) → Takes k p → (text : List ℕ) (at n : ℕ) (a : A) → p text at ≡ ok a n → at ≤ length text → n ≤ length text
  takes_within p w text at n a e = went_within text at k n (w text at n a e)

  -- ---- a rule again and again
  pub takes_falls : (p : Parser A) → Takes (suc k) p → (text : List ℕ) → Falls p text
  takes_falls p w text at n a e = let x = w text at n a e in let y = x.1 (omega (arith, x.0)) in omega (arith, x.0)

  stop_collected : (m : Many A) (xs : List A) (n : ℕ) → collected m ≡ ok xs n → stop m ≡ n
  stop_collected (many ys s) xs n e = cc

  module _ (p : Parser A) (w : Takes k p) where
    turns_went : (text : List ℕ) (f at : ℕ) → Went 0 text at (stop (many_turns p text f at))
    unfolding many_turns
    turns_went text zero at = went_none text at
    turns_went text (suc f) at = go (p text at) refl (λ n. turns_went text f n)
      where
        go : (r : Res A) → p text at ≡ r → ((n : ℕ) → Went 0 text n (stop (many_turns p text f n))) → Went 0 text at (stop (go_on r at (λ n. many_turns p text f n)))
        go (fail why) e ih = went_none text at
        go (ok a n) e ih = let x = went_on text at k 0 n _ (w text at n a e) (ih n) in rw stop_push (went_less text at 0 (k + 0) _ (omega arith) x)

    -- where the rule fails at last is no place before, and within the text if any byte was taken
    pub many_went : (text : List ℕ) (at : ℕ) → Went 0 text at (stop (many0 p text at))
    unfolding many0
    many_went text at = turns_went text (length text - at) at

    pub takes_many : Takes 0 (λ text at. collected (many0 p text at))
    takes_many text at n a e = rw (← stop_collected (many0 p text at) a n e) (many_went text at)

-- ---- Util
abbrev line_break : Parser (Option (Unit {0}))
line_break = opt (alt (tag (bytes "\n")) (tag (bytes "\r\n")))

takes_line_break : Takes 0 line_break
takes_line_break = takes_opt 1 _ (takes_alt 1 _ _ (takes_tag (bytes "\n")) (takes_less 1 2 (omega arith) (tag (bytes "\r\n")) (takes_tag (bytes "\r\n"))))

pub takes_line : Takes 0 consume_line
unfolding consume_line
takes_line =
    takes_bind 0 0 not_line_ending _ takes_not_line_ending (λ line.
    takes_bind 0 0 line_break _ takes_line_break (λ _.
    takes_done line))

-- a line takes a byte wherever one is there: a byte of its own, or its end
module _ (text : List ℕ) (at n : ℕ) (line : Span) (h : at < length text) where
  ended : is_none_of (bytes "\r\n") (get_or text at 0) ≡ false → (not (tagged (bytes "\r") text at) || tagged (bytes "\r\n") text at) ≡ true
      → (tagged (bytes "\n") text at || tagged (bytes "\r\n") text at) ≡ true
  ended q t = go (eqb 13 (get_or text at 0)) (eqb 10 (get_or text at 0)) refl refl q
    where
      go : (b c : Bool) → eqb 13 (get_or text at 0) ≡ b → eqb 10 (get_or text at 0) ≡ c → not (b || (c || false)) ≡ false → (tagged (bytes "\n") text at || tagged (bytes "\r\n") text at) ≡ true
      go true c x y q =
          let cr : tagged (bytes "\r") text at ≡ true = tagged_byte 13 text at h ∙ eq-eqb (get_or text at 0) 13 (sym (eqb-true 13 (get_or text at 0) x)) in
          let u : tagged (bytes "\r\n") text at ≡ true = rw cr at t in
          rw u (or-true (tagged (bytes "\n") text at))
      go false true x y q = rw (tagged_byte 10 text at h, eq-eqb (get_or text at 0) 10 (sym (eqb-true 10 (get_or text at 0) y)))
      go false false x y q = absurd (false≢true (sym q))

  took_end : (b c : Bool) (l : Span) → (b || c) ≡ true
      → bind (or_none (or_else (when b other_text (ok (tt {0}) (at + 1))) (when c other_text (ok (tt {0}) (at + 2)))) at) (λ _ k. ok l k) ≡ ok line n → at + 1 ≤ n
  took_end true c l t e = let z : at + 1 ≡ n = cc in omega arith
  took_end false true l t e = let z : at + 2 ≡ n = cc in omega arith
  took_end false false l t e = absurd (false≢true t)

  from_first : (b : Bool) → is_none_of (bytes "\r\n") (get_or text at 0) ≡ b → (m : ℕ) → run_end (is_none_of (bytes "\r\n")) text at ≡ m
      → (not (tagged (bytes "\r") text m) || tagged (bytes "\r\n") text m) ≡ true → (l : Span) → bind (line_break text m) (λ _ k. ok l k) ≡ ok line n → at + 1 ≤ n
  from_first true q m r t l e =
      let x = takes_bind 0 0 line_break _ takes_line_break (λ _. takes_done l) text m n line e in
      omega (arith, x.0, run_step (is_none_of (bytes "\r\n")) text at h q, run_from (is_none_of (bytes "\r\n")) text (at + 1))
  from_first false q m r t l e =
      let z : m ≡ at = sym r ∙ run_stop (is_none_of (bytes "\r\n")) text at h q in
      took_end (tagged (bytes "\n") text at) (tagged (bytes "\r\n") text at) l (ended q (rw z at t)) (rw z at e)

  pub line_takes : consume_line text at ≡ ok line n → Went 1 text at n
  unfolding consume_line
  line_takes e =
      let m = run_end (is_none_of (bytes "\r\n")) text at in
      let f = bind_ok (not_line_ending text at) _ line n e in
      let w = when_ok (not (tagged (bytes "\r") text m) || tagged (bytes "\r\n") text m) lone_cr (span at m) f.0 m f.1 f.2 in
      (from_first (is_none_of (bytes "\r\n") (get_or text at 0)) refl m refl w.0 f.0 (rw (← w.2) at f.3), (takes_line text at n line e).1)

pub takes_parsed : Takes 1 parsed
unfolding parsed
takes_parsed = takes_map 1 parse digit1 takes_digits

takes_or_fail : (n : Parsed) → Takes 0 (or_fail n)
takes_or_fail (fits v) = takes_done v
takes_or_fail large = λ text at n a e. absurd (fail_not_ok too_large a n e)

pub takes_number : Takes 1 number
unfolding number
takes_number = takes_bind 1 0 parsed or_fail takes_parsed takes_or_fail

pub takes_number_or_zero : Takes 1 number_or_zero
unfolding number_or_zero
takes_number_or_zero = takes_map 1 or_zero parsed takes_parsed

pub takes_range : Takes 1 byte_range_val
unfolding byte_range_val
takes_range =
    takes_bind 1 0 number _ takes_number (λ n.
    takes_bind 0 0 (opt (preceded (tag (bytes "@")) number)) _ (takes_opt 2 _ (takes_bind 1 1 (tag (bytes "@")) _ (takes_tag (bytes "@")) (λ _. takes_number))) (λ o.
    takes_done (range n o)))

-- ---- BasicTags
pub takes_m3u : Takes 7 m3u_tag
unfolding m3u_tag
takes_m3u = takes_tag (bytes "#EXTM3U")

pub takes_ext : Takes 7 ext_tag
unfolding ext_tag
takes_ext =
    takes_bind 5 2 (tag (bytes "#EXT-")) _ (takes_tag (bytes "#EXT-")) (λ _.
    takes_bind 1 1 (is_not name_empty (bytes "\r\n:")) _ (takes_is_not name_empty (bytes "\r\n:")) (λ name.
    takes_bind 0 1 (opt_tag (bytes ":")) _ (takes_opt_tag (bytes ":")) (λ _.
    takes_bind 0 1 (opt_is_not (bytes "\r\n")) _ (takes_opt_is_not (bytes "\r\n")) (λ rest.
    takes_bind 1 0 take1 _ takes_one (λ _.
    takes_done (ext name rest))))))

pub takes_comment : Takes 2 comment_tag
unfolding comment_tag
takes_comment =
    takes_bind 1 1 (tag (bytes "#")) _ (takes_tag (bytes "#")) (λ _.
    takes_bind 0 1 (opt_is_not (bytes "\r\n")) _ (takes_opt_is_not (bytes "\r\n")) (λ text.
    takes_bind 1 0 take1 _ takes_one (λ _.
    takes_done text)))

pub takes_playlist_type : Takes 2 playlist_type
unfolding playlist_type
takes_playlist_type =
    takes_bind 1 1 (is_not type_empty (bytes "\r\n")) _ (takes_is_not type_empty (bytes "\r\n")) (λ typ.
    takes_bind 1 0 take1 _ takes_one (λ _.
    takes_here (λ text at. from_str text typ)))
