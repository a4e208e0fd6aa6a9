-- nom's combinators, as functions of a text (its bytes) and a place in it: a rule fails and says why, or gives a value and the place after.
-- All of it computes, so a worked example is `refl`. Assumes nothing.
use Rattle.std.specs.Prelude.{ℕ, suc, ◌+◌, ◌-◌, ◌*◌, Bool, true, false, not, cond, ◌&&◌, ◌||◌, List, [], ◌∷◌, length, drop, get_or, leb, ltb, eqb}
use Prim.Native.Char.{code}
use Prim.Native.String.{String, [] as []ˢ, ◌∷◌ as ◌∷ˢ◌}
use Rattle.std.proofs.Math.Option.{Option, none, some}
use Rattle.text.specs.Why.{Why, other_text, no_digits, missing_byte, lone_cr}

-- the bytes of a text that is written out (ASCII only)
abbrev pub bytes : String → List ℕ
bytes []ˢ = []
bytes (c ∷ˢ s) = code c ∷ bytes s

-- IResult: Err, or Ok with what is left, which here is the place where it starts
pub data Res (A : Type 0) : Type 0 where
  fail : Why → Res A
  ok : A → ℕ → Res A

abbrev pub Parser : Type 0 → Type 0
Parser A = List ℕ → ℕ → Res A

-- a part of the text: from its first byte to the place after its last
pub data Span : Type 0 where
  span : ℕ → ℕ → Span

-- ---- tests of a byte
-- nom::character::is_digit
unfoldable pub is_digit : ℕ → Bool
is_digit b = leb 48 b && leb b 57

-- u8::is_ascii
abbrev pub is_ascii : ℕ → Bool
is_ascii b = leb b 0x7F

abbrev pub is_one_of : List ℕ → ℕ → Bool
is_one_of [] b = false
is_one_of (x ∷ xs) b = eqb x b || is_one_of xs b

abbrev pub is_none_of : List ℕ → ℕ → Bool
is_none_of set b = not (is_one_of set b)

-- ---- the three questions that a rule asks of the text
-- does it go on with t at this place?
unfoldable pub begins : List ℕ → List ℕ → Bool
begins [] s = true
begins (t ∷ ts) [] = false
begins (t ∷ ts) (x ∷ s) = eqb x t && begins ts s

unfoldable pub tagged : List ℕ → List ℕ → ℕ → Bool
unfolding begins
tagged t text at = begins t (drop at text)

-- where does the run of bytes that pass the test p end?
unfoldable pub run : (ℕ → Bool) → List ℕ → ℕ
run p [] = 0
run p (x ∷ s) = cond (p x) (suc (run p s)) 0

unfoldable pub run_end : (ℕ → Bool) → List ℕ → ℕ → ℕ
unfolding run
run_end p text at = at + run p (drop at text)

-- what is the number that its digits write? (acc: of the digits before)
unfoldable pub decimal : ℕ → List ℕ → ℕ
unfolding is_digit
decimal acc [] = acc
decimal acc (x ∷ s) = cond (is_digit x) (decimal (acc * 10 + (x - 48)) s) acc

-- ---- how results are joined
module _ {A : Type 0} where
  abbrev pub when : Bool → Why → Res A → Res A
  when true why r = r
  when false why r = fail why

  abbrev pub or_else : Res A → Res A → Res A
  or_else (fail why) r = r
  or_else (ok a n) r = ok a n

  abbrev pub or_none : Res A → ℕ → Res (Option A)
  or_none (fail why) at = ok none at
  or_none (ok a n) at = ok (some a) n

module _ {A B : Type 0} where
  abbrev pub bind : Res A → (A → ℕ → Res B) → Res B
  bind (fail why) k = fail why
  bind (ok a n) k = k a n

-- ---- what asks the text
-- tag(t), char(c)
abbrev pub tag : List ℕ → Parser (Unit {0})
tag t text at = when (tagged t text at) other_text (ok tt (at + length t))

-- the place after t where the text goes on with it, else the same place
unfoldable pub after_tag : List ℕ → List ℕ → ℕ → ℕ
after_tag t text at = cond (tagged t text at) (at + length t) at

-- opt(char(c)), whose value is dropped
abbrev pub opt_tag : List ℕ → Parser (Unit {0})
opt_tag t text at = ok tt (after_tag t text at)

-- take_while1(p): a run of at least one byte
abbrev pub take_while1 : Why → (ℕ → Bool) → Parser Span
take_while1 why p text at = when (ltb at (run_end p text at)) why (ok (span at (run_end p text at)) (run_end p text at))

-- is_not(set): a run of at least one byte, none of these
abbrev pub is_not : Why → List ℕ → Parser Span
is_not why set = take_while1 why (is_none_of set)

-- a part, or nothing where it is empty
abbrev pub span_or : ℕ → ℕ → Option Span
span_or s e = cond (ltb s e) (some (span s e)) none

-- opt(is_not(set))
abbrev pub opt_is_not : List ℕ → Parser (Option Span)
opt_is_not set text at = ok (span_or at (run_end (is_none_of set) text at)) (run_end (is_none_of set) text at)

-- opt(is_a(set)): any run of these bytes, dropped
abbrev pub skip : List ℕ → Parser (Unit {0})
skip set text at = ok tt (run_end (is_one_of set) text at)

-- multispace0: "White space (space, tab, CR, LF)"
abbrev pub is_multispace : ℕ → Bool
is_multispace = is_one_of (bytes " \t\r\n")

abbrev pub multispace0 : Parser (Unit {0})
multispace0 text at = ok tt (run_end is_multispace text at)

-- space0: "spaces and tabs"
abbrev pub is_space : ℕ → Bool
is_space = is_one_of (bytes " \t")

abbrev pub space0 : Parser (Unit {0})
space0 text at = ok tt (run_end is_space text at)

-- take(1): one byte, any
abbrev pub take1 : Parser (Unit {0})
take1 text at = when (ltb at (length text)) missing_byte (ok tt (at + 1))

-- peek(take(1)): a byte is there, any; it is not taken
abbrev pub peek_take1 : Parser (Unit {0})
peek_take1 text at = when (ltb at (length text)) missing_byte (ok tt at)

-- peek(none_of(set)): a byte is there, and none of these; nothing is taken
abbrev pub peek_none_of : List ℕ → Parser (Unit {0})
peek_none_of set text at = when (ltb at (length text) && is_none_of set (get_or text at 0)) missing_byte (ok tt at)

-- take_until(c): up to the first c, which must be there
abbrev pub take_until : List ℕ → Parser Span
take_until c text at = when (ltb (run_end (is_none_of c) text at) (length text)) other_text (ok (span at (run_end (is_none_of c) text at)) (run_end (is_none_of c) text at))

-- digit1, take_while1(is_digit): the number that they write, of any size
abbrev pub digit1 : Parser ℕ
digit1 text at = when (ltb at (run_end is_digit text at)) no_digits (ok (decimal 0 (drop at text)) (run_end is_digit text at))

-- not_line_ending: up to CR LF, LF or the end; "if nth == '\r'" and no "\r\n" stands there, it fails
abbrev pub not_line_ending : Parser Span
not_line_ending text at =
    when (not (tagged (bytes "\r") text (run_end (is_none_of (bytes "\r\n")) text at)) || tagged (bytes "\r\n") text (run_end (is_none_of (bytes "\r\n")) text at)) lone_cr
    (ok (span at (run_end (is_none_of (bytes "\r\n")) text at)) (run_end (is_none_of (bytes "\r\n")) text at))

-- ---- what joins rules
module _ {A : Type 0} where
  abbrev pub opt : Parser A → Parser (Option A)
  opt p text at = or_none (p text at) at

  abbrev pub alt : Parser A → Parser A → Parser A
  alt p q text at = or_else (p text at) (q text at)

  -- the value of a rule that takes nothing
  abbrev pub done : A → Parser A
  done a text at = ok a at

  -- map_res: the value is kept where the test holds
  abbrev pub verify : Why → (A → Bool) → Parser A → Parser A
  verify why t p text at = bind (p text at) (λ a n. when (t a) why (ok a n))

module _ {A B : Type 0} where
  infixl 40 ◌>>=◌
  -- tuple, pair: one after the other
  abbrev pub ◌>>=◌ : Parser A → (A → Parser B) → Parser B
  (p >>= k) text at = bind (p text at) (λ a n. k a text n)

  abbrev pub map : (A → B) → Parser A → Parser B
  map f p text at = bind (p text at) (λ a n. ok (f a) n)

  abbrev pub preceded : Parser A → Parser B → Parser B
  preceded p q text at = bind (p text at) (λ _ n. q text n)

-- the place itself
abbrev pub place : Parser ℕ
place text at = ok at at
