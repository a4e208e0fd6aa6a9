-- What a rule gives: `Gives P x` says that where the result x succeeds, its value and its place are as P says. One law for each way in which results are joined,
-- so that a rule's own law is the rule written again, as with text's `Takes`. Then the rules of `text`. Assumes nothing.
use Prim.Native.Nat.{ℕ, zero, suc, ◌+◌, ◌-◌, ◌^◌, ◌≤◌, ◌<◌}
use mathlib.Core.Path.{◌≡◌, refl}
use mathlib.Core.Bool.{Bool, true, false, cond}
use mathlib.Core.List.{List, [], ◌∷◌}
use mathlib.Core.Option.{Option, none, some}
use native.Mathlib.Omega.{arith}
use lib.Dec.{ltb}
use lib.ListN.{length, take, drop, get_or}
use borrow.Author.Tests.{ltb-true}
use Rattle.text.specs.Why.{Why, other_text, no_digits, missing_byte, too_large}
use Rattle.text.specs.Nom.{Res, fail, ok, Parser, Span, span, bytes, is_digit, is_none_of, tagged, run, run_end, decimal, when, or_else, or_none, bind, tag, take_while1, span_or, take1, digit1}
use Rattle.text.specs.Many.{Many, many, items, stop, push, go_on, many_turns, many0}
use Rattle.text.specs.Util.{Parsed, fits, large, parse, parsed, or_fail, or_zero, number, number_or_zero, range, byte_range_val}
use Rattle.text.proofs.Ahead.{Every}
use Rattle.text.proofs.Laws.{run_within}
use Rattle.text.proofs.Takes.{fail_not_ok, when_ok}
use Rattle.records.proofs.Back.{All}
use Rattle.roundtrip.proofs.Said.{NumbersFit}
use Rattle.roundtrip.proofs.Edges.{Edge, before, plain, none_of_ends, digits_end, one_ends, tag_ends}

abbrev pub If : {A : Type 0} → (A → Type 0) → Option A → Type 0
If P none = Unit {0}
If P (some a) = P a

abbrev pub Gives : {A : Type 0} → (A → ℕ → Type 0) → Res A → Type 0
Gives {A} P x = (a : A) (n : ℕ) → x ≡ ok a n → P a n

-- of no interest
abbrev pub Any : {A : Type 0} → A → ℕ → Type 0
Any a n = Unit {0}

pub gives_any : {A : Type 0} (x : Res A) → Gives Any x
gives_any x a n e = tt

-- ---- what joins results
module _ {A : Type 0} (P : A → ℕ → Type 0) where
  pub gives_done : (a : A) (n : ℕ) → P a n → Gives P (ok a n)
  gives_done a n h b m e =
      let y : b ≡ a = cc in
      let z : m ≡ n = cc in
      rw (y, z) h

  pub gives_when : (b : Bool) (why : Why) (a : A) (n : ℕ) → (b ≡ true → P a n) → Gives P (when b why (ok a n))
  gives_when b why a n h c m e = let w = when_ok b why a c n m e in rw (← w.1, ← w.2) (h w.0)

  -- the second where the first fails
  pub gives_alt : (x y : Res A) → Gives P x → ((why : Why) → x ≡ fail why → Gives P y) → Gives P (or_else x y)
  gives_alt (fail why) y hx hy = hy why refl
  gives_alt (ok a n) y hx hy = hx

  pub gives_opt : (Q : Option A → ℕ → Type 0) (x : Res A) (at : ℕ) → Q none at → ((a : A) (n : ℕ) → P a n → Q (some a) n) → Gives P x → Gives Q (or_none x at)
  gives_opt Q (fail why) at h k g a n e =
      let y : a ≡ none = cc in
      let z : n ≡ at = cc in
      rw (y, z) h
  gives_opt Q (ok b m) at h k g a n e =
      let y : a ≡ some b = cc in
      let z : n ≡ m = cc in
      rw (y, z) (k b m (g b m refl))

module _ {A B : Type 0} (P : A → ℕ → Type 0) (Q : B → ℕ → Type 0) where
  -- also `preceded` and `map`
  pub gives_bind : (x : Res A) (k : A → ℕ → Res B) → Gives P x → ((a : A) (m : ℕ) → P a m → Gives Q (k a m)) → Gives Q (bind x k)
  gives_bind (fail why) k hx hk = λ b n e. absurd (fail_not_ok why b n e)
  gives_bind (ok a m) k hx hk = hk a m (hx a m refl)

-- ---- a rule again and again: each item is as P says, and each place as Q
module _ {A : Type 0} (P : A → Type 0) (Q : ℕ → Type 0) (p : Parser A) (text : List ℕ) (h : (at : ℕ) → Q at → Gives (λ a n. P a × Q n) (p text at)) where
  abbrev Each : Many A → Type 0
  Each m = All P (items m) × Q (stop m)

  each_push : (a : A) (m : Many A) → P a → Each m → Each (push a m)
  unfolding All
  each_push a (many xs n) k e = ((k, e.0), e.1)

  turns_give : (f at : ℕ) → Q at → Each (many_turns p text f at)
  unfolding many_turns All
  turns_give zero at q = (tt, q)
  turns_give (suc f) at q = go (p text at) (h at q) (λ n. turns_give f n)
    where
      go : (x : Res A) → Gives (λ a n. P a × Q n) x → ((n : ℕ) → Q n → Each (many_turns p text f n)) → Each (go_on x at (λ n. many_turns p text f n))
      go (fail why) g ih = (tt, q)
      go (ok a n) g ih = let w = g a n refl in each_push a (many_turns p text f n) w.0 (ih n w.1)

  pub many_gives : (at : ℕ) → Q at → All P (items (many0 p text at)) × Q (stop (many0 p text at))
  unfolding many0
  many_gives at q = turns_give (length text - at) at q

-- ---- a part of the text, of at least one byte, whose bytes pass the test, between two edges
pub record Part (p : ℕ → Bool) (text : List ℕ) (a b : ℕ) : Type 0 where
  pub long : a < b
  pub within : b ≤ length text
  pub passes : Every p (take (b - a) (drop a text))
  pub starts : Edge text a
  pub ends : Edge text b

abbrev pub Shows : (ℕ → Bool) → List ℕ → Span → Type 0
Shows p text (span a b) = Part p text a b

every_run : (p : ℕ → Bool) (s : List ℕ) → Every p (take (run p s) s)
unfolding run Every
every_run p [] = tt
every_run p (x ∷ s) = go (p x) refl (every_run p s)
  where
    go : (b : Bool) → p x ≡ b → Every p (take (run p s) s) → Every p (take (cond b (suc (run p s)) 0) (x ∷ s))
    go true e ih = (e, ih)
    go false e ih = tt

pub run_passes : (p : ℕ → Bool) (text : List ℕ) (at : ℕ) → Every p (take (run_end p text at - at) (drop at text))
unfolding run_end
run_passes p text at =
    let n = run p (drop at text) in
    let z : at + n - at ≡ n = omega arith in
    rw z (every_run p (drop at text))

-- the place after is an edge; and the value is as P says
module _ (text : List ℕ) {A : Type 0} where
  abbrev pub Ends : A → ℕ → Type 0
  Ends a n = Edge text n

  abbrev pub Cut : (A → Type 0) → A → ℕ → Type 0
  Cut P a n = P a × Edge text n

  -- the value's bytes pass the test, and the place after is before an ASCII byte
  abbrev pub Stopped : (A → Type 0) → A → ℕ → Type 0
  Stopped P a n = P a × (get_or text n 0 < 128)

-- ---- what asks the text
module _ (text : List ℕ) (at : ℕ) where
  -- a fixed text
  pub gives_tag : (t : List ℕ) → 0 < length t → get_or t (length t - 1) 0 < 128 → Gives (Ends text) (tag t text at)
  gives_tag t long last = gives_when (Ends text) (tagged t text at) other_text tt (at + length t) (tag_ends text at t long last)

  -- a run of none of these bytes, from an edge on: it ends before one of them
  module _ (set : List ℕ) (ascii : plain set ≡ true) (from : Edge text at) where
    pub run_shows : at < run_end (is_none_of set) text at → Part (is_none_of set) text at (run_end (is_none_of set) text at)
    run_shows h =
        let p = is_none_of set in
        record {
          long = h;
          within = run_within p text at h;
          passes = run_passes p text at;
          starts = from;
          ends = before (none_of_ends text at set ascii);
        }

    pub gives_is_not : (why : Why) → Gives (Stopped text (Shows (is_none_of set) text)) (take_while1 why (is_none_of set) text at)
    gives_is_not why =
        let m = run_end (is_none_of set) text at in
        gives_when (Stopped text (Shows (is_none_of set) text)) (ltb at m) why (span at m) m (λ q. (run_shows (ltb-true at m q), none_of_ends text at set ascii))

    pub span_or_shows : If (Shows (is_none_of set) text) (span_or at (run_end (is_none_of set) text at))
    span_or_shows = go (ltb at (run_end (is_none_of set) text at)) refl
      where
        go : (b : Bool) → ltb at (run_end (is_none_of set) text at) ≡ b → If (Shows (is_none_of set) text) (cond b (some (span at (run_end (is_none_of set) text at))) none)
        go true q = run_shows (ltb-true at _ q)
        go false q = tt

  pub gives_one : get_or text at 0 < 128 → Gives (Ends text) (take1 text at)
  gives_one h = gives_when (Ends text) (ltb at (length text)) missing_byte tt (at + 1) (λ q. one_ends text at h)

  pub gives_digits : Edge text at → Gives (Ends text) (digit1 text at)
  gives_digits h = gives_when (Ends text) (ltb at (run_end is_digit text at)) no_digits (decimal 0 (drop at text)) (run_end is_digit text at) (λ q. digits_end text at h)

-- ---- numbers: below 2^64
abbrev pub Small : ℕ → Type 0
Small n = n < 2 ^ 64

abbrev SmallParsed : Parsed → Type 0
SmallParsed (fits n) = Small n
SmallParsed large = Unit {0}

parse_small : (n : ℕ) → SmallParsed (parse n)
parse_small n = go (ltb n (2 ^ 64)) refl
  where
    go : (b : Bool) → ltb n (2 ^ 64) ≡ b → SmallParsed (cond b (fits n) large)
    go true q = ltb-true n (2 ^ 64) q
    go false q = tt

or_zero_small : (v : Parsed) → SmallParsed v → Small (or_zero v)
or_zero_small (fits v) h = h
or_zero_small large h = omega arith

numbers_fit : (n : ℕ) (o : Option ℕ) → Small n → If Small o → NumbersFit (range n o)
numbers_fit n none h k = h
numbers_fit n (some o) h k = (h, k)

module _ (text : List ℕ) where
  module _ (at : ℕ) (from : Edge text at) where
    gives_parsed : Gives (Cut text SmallParsed) (parsed text at)
    unfolding parsed
    gives_parsed =
        gives_bind (Ends text) (Cut text SmallParsed) _ _ (gives_digits text at from) (λ v n h.
        gives_done (Cut text SmallParsed) (parse v) n (parse_small v, h))

    gives_or_fail : (v : Parsed) (n : ℕ) → Cut text SmallParsed v n → Gives (Cut text Small) (or_fail v text n)
    gives_or_fail (fits v) n h = gives_done (Cut text Small) v n h
    gives_or_fail large n h = λ a m e. absurd (fail_not_ok too_large a m e)

    pub gives_number : Gives (Cut text Small) (number text at)
    unfolding number
    gives_number = gives_bind (Cut text SmallParsed) (Cut text Small) _ _ gives_parsed gives_or_fail

    pub gives_number_or_zero : Gives (Cut text Small) (number_or_zero text at)
    unfolding number_or_zero
    gives_number_or_zero =
        gives_bind (Cut text SmallParsed) (Cut text Small) _ _ gives_parsed (λ v n h.
        gives_done (Cut text Small) (or_zero v) n (or_zero_small v h.0, h.1))

  gives_offset : (at : ℕ) → Gives (Cut text Small) (bind (tag (bytes "@") text at) (λ _ n. number text n))
  gives_offset at = gives_bind (Ends text) (Cut text Small) _ _ (gives_tag text at (bytes "@") (omega arith) (omega arith)) (λ _ n h. gives_number n h)

  pub gives_range : (at : ℕ) → Edge text at → Gives (Cut text NumbersFit) (byte_range_val text at)
  unfolding byte_range_val
  gives_range at from =
      gives_bind (Cut text Small) (Cut text NumbersFit) _ _ (gives_number at from) (λ v n h.
      gives_bind (Cut text (If Small)) (Cut text NumbersFit) _ _ (gives_opt (Cut text Small) (Cut text (If Small)) _ n (tt, h.1) (λ o m k. k) (gives_offset n)) (λ o m k.
      gives_done (Cut text NumbersFit) (range v o) m (numbers_fit v o h.0 k.0, k.1)))
