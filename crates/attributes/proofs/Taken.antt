-- What a rule has taken where it succeeds: a value in quotes, and a pair with one. Assumes nothing.
use Prim.Native.Nat.{ℕ, ◌+◌, ◌≤◌, ◌<◌}
use mathlib.Core.Path.{◌≡◌, refl, ◌∙◌}
use mathlib.Core.Bool.{Bool, true, false, ◌&&◌}
use mathlib.Core.List.{List}
use native.Mathlib.Omega.{arith}
use lib.Dec.{ltb, eqb}
use lib.ListN.{length, get_or}
use borrow.Author.Tests.{ltb-true, eqb-true}
use Rattle.text.specs.Why.{Why, other_text, missing_byte}
use Rattle.text.specs.Nom.{Res, fail, ok, Span, span, bytes, is_none_of, run_end, tagged, after_tag, when, or_else, bind, alt, is_space}
use Rattle.text.specs.Util.{spells}
use Rattle.text.proofs.Laws.{and_right, run_from}
use Rattle.text.proofs.Takes.{bind_ok, fail_not_ok, takes_opt_tag}
use Rattle.attributes.specs.Pairs.{QuotedOrUnquoted, bare, in_quotes, pair, quoted, unquoted, key_value_pair, next_pair}
use Rattle.attributes.proofs.Takes.{takes_quoted}

-- where a test and what follows it succeed, the test holds, and what follows it succeeds
went_past : {A B : Type 0} (b : Bool) (why : Why) (v : A) (m : ℕ) (k : A → ℕ → Res B) (c : B) (n : ℕ) → bind (when b why (ok v m)) k ≡ ok c n
    → (b ≡ true) × (k v m ≡ ok c n)
went_past true why v m k c n e = (refl, e)
went_past false why v m k c n e = absurd (fail_not_ok why c n e)

-- ---- a value in quotes: its bytes are those up to the next quote mark, and there are some
pub record Quoted (text : List ℕ) (at s e n : ℕ) : Type 0 where
  pub start : s ≡ at + 1
  pub bytes_there : s < e
  pub mark : tagged (bytes "\"") text e ≡ true
  pub after : n ≡ e + 1

pub quoted_ok : (text : List ℕ) (at n s e : ℕ) → quoted text at ≡ ok (in_quotes (span s e)) n → Quoted text at s e n
unfolding quoted
quoted_ok text at n s e q =
    let from = at + 1 in
    let m = run_end (is_none_of (bytes "\"")) text from in
    let opened = went_past (tagged (bytes "\"") text at) other_text tt from _ _ n q in
    let filled = went_past (ltb from m) missing_byte (span from m) m _ _ n opened.1 in
    let closed = went_past (tagged (bytes "\"") text m) other_text tt (m + 1) _ _ n filled.1 in
    let same = closed.1 in
    let start : s ≡ from = cc in
    let end : e ≡ m = cc in
    let after : n ≡ m + 1 = cc in
    record { start = start; bytes_there = omega (arith, ltb-true from m filled.0); mark = rw end closed.0; after = omega arith }

-- no other alternative's value is in quotes
module _ (text : List ℕ) (at n : ℕ) (s : Span) where
  not_bare : unquoted text at ≡ ok (in_quotes s) n → ⊥
  unfolding unquoted
  not_bare e =
      let m = run_end (is_none_of (bytes ",\r\n")) text at in
      let same = (went_past (ltb at m) missing_byte (span at m) m (λ v k. ok (bare v) k) (in_quotes s) n e).1 in
      let z : ◌≡◌ {A = ℕ} 0 1 = cc in
      omega arith

  pub alt_quoted : alt quoted unquoted text at ≡ ok (in_quotes s) n → quoted text at ≡ ok (in_quotes s) n
  alt_quoted e = go (quoted text at) refl e
    where
      go : (r : Res QuotedOrUnquoted) → quoted text at ≡ r → or_else r (unquoted text at) ≡ ok (in_quotes s) n → quoted text at ≡ ok (in_quotes s) n
      go (fail why) f e = absurd (not_bare e)
      go (ok v m) f e = f ∙ e

-- ---- a pair: the name up to the first `=`, then the value, and perhaps a comma
pub record Read (text : List ℕ) (at : ℕ) (left : Span) (right : QuotedOrUnquoted) (n : ℕ) : Type 0 where
  pub end : ℕ
  pub value_end : ℕ
  pub name : left ≡ span at end
  pub name_long : at ≤ end
  pub value : alt quoted unquoted text (end + 1) ≡ ok right value_end
  pub after : n ≡ after_tag (bytes ",") text value_end

pub pair_ok : (text : List ℕ) (at n : ℕ) (left : Span) (right : QuotedOrUnquoted) → key_value_pair text at ≡ ok (pair left right) n → Read text at left right n
unfolding key_value_pair
pair_ok text at n left right q =
    let e = run_end (is_none_of (bytes "=")) text at in
    let begun = went_past (ltb at (length text) && is_none_of (bytes "\r\n") (get_or text at 0)) missing_byte tt at _ _ n q in
    let named = went_past (ltb e (length text)) other_text (span at e) e _ _ n begun.1 in
    let equals = went_past (tagged (bytes "=") text e) other_text tt (e + 1) _ _ n named.1 in
    let value = bind_ok (alt quoted unquoted text (e + 1)) _ _ n equals.1 in
    let there = value.2 in
    let same = value.3 in
    let left_name : left ≡ span at e = cc in
    let right_value : value.0 ≡ right = cc in
    let after : n ≡ after_tag (bytes ",") text value.1 = cc in
    record {
      end = e;
      value_end = value.1;
      name = left_name;
      name_long = run_from (is_none_of (bytes "=")) text at;
      value = cc;
      after = after;
    }

-- ---- the next pair of a list, with a value in quotes
spells_long : (text name : List ℕ) (a e : ℕ) → spells text (span a e) name ≡ true → a + length name ≡ e
unfolding spells
spells_long text name a e t = eqb-true (a + length name) e (and_right (tagged name text a) (eqb (a + length name) e) t)

module _ (text : List ℕ) (at n : ℕ) (left s : Span) (e : next_pair text at ≡ ok (pair left (in_quotes s)) n) where
  next_ok : Read text (run_end is_space text at) left (in_quotes s) n
  unfolding next_pair
  next_ok = pair_ok text (run_end is_space text at) n left (in_quotes s) e

  pub next_quoted : (k : ℕ) × (m : ℕ) × (quoted text k ≡ ok (in_quotes s) m)
  next_quoted = let r = next_ok in (r.end + 1, r.value_end, alt_quoted text (r.end + 1) r.value_end s r.value)

  -- its name, `=`, two quote marks and a byte between them
  pub next_long : (name : List ℕ) → spells text left name ≡ true → at + (length name + 4) ≤ n
  next_long name t =
      let r = next_ok in
      let name_end : run_end is_space text at + length name ≡ r.end = spells_long text name (run_end is_space text at) r.end (rw r.name at t) in
      let value = (takes_quoted text (r.end + 1) r.value_end (in_quotes s) (alt_quoted text (r.end + 1) r.value_end s r.value)).0 in
      let comma = (takes_opt_tag (bytes ",") text r.value_end (after_tag (bytes ",") text r.value_end) tt refl).0 in
      omega (arith, run_from is_space text at, r.after)
