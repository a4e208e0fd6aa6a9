-- A pair, and the pair that begins within its name: the same value, and the rest of the name. And where a pair's value stands. Assumes nothing.
use Prim.Native.Nat.{ℕ, zero, suc, ◌+◌, ◌-◌, ◌≤◌, ◌<◌}
use mathlib.Core.Path.{◌≡◌, refl, sym, ◌∙◌, ap}
use mathlib.Core.Bool.{Bool, true, false, cond}
use mathlib.Core.List.{List, [], ◌∷◌}
use native.Mathlib.Omega.{arith}
use native.Mathlib.Nat.{zero-add}
use lib.Dec.{ltb}
use lib.ListN.{length, drop}
use lib.Seq.{drop-drop}
use Rattle.text.specs.Why.{Why, other_text, missing_byte}
use Rattle.text.specs.Nom.{Res, fail, ok, Span, span, bytes, is_none_of, is_space, tagged, after_tag, run, run_end, when, or_else, bind, alt}
use Rattle.text.proofs.Laws.{run_from}
use Rattle.text.proofs.Takes.{fail_not_ok, takes_opt_tag}
use Rattle.attributes.specs.Pairs.{QuotedOrUnquoted, bare, in_quotes, Pair, pair, quoted, unquoted, key_value_pair, next_pair}
use Rattle.attributes.proofs.Taken.{pair_ok}
use Rattle.chains.specs.Inside.Kept.{start_of, span_in, begins_name, Fails}

-- the list's next pair: blanks, then a pair
pub next_pair_lem : (text : List ℕ) (at : ℕ) → next_pair text at ≡ key_value_pair text (run_end is_space text at)
unfolding next_pair
next_pair_lem text at = refl

-- ---- a run that is begun further on ends at the same place
run_skip : (p : ℕ → Bool) (k : ℕ) (l : List ℕ) → k ≤ run p l → k + run p (drop k l) ≡ run p l
unfolding run
run_skip p zero l h = zero-add (run p l)
run_skip p (suc k) [] h = absurd (omega arith)
run_skip p (suc k) (x ∷ l) h = go (p x) (run_skip p k l) h
  where
    go : (b : Bool) → (k ≤ run p l → k + run p (drop k l) ≡ run p l) → suc k ≤ cond b (suc (run p l)) 0 → suc k + run p (drop k l) ≡ cond b (suc (run p l)) 0
    go true ih h = omega (arith, ih (omega arith))
    go false ih h = absurd (omega arith)

run_inside : (p : ℕ → Bool) (text : List ℕ) (s i : ℕ) → s ≤ i → i ≤ run_end p text s → run_end p text i ≡ run_end p text s
unfolding run_end
run_inside p text s i h l =
    let k = i - s in
    let z : i ≡ s + k = omega arith in
    let d : drop k (drop s text) ≡ drop i text = drop-drop k s text ∙ ap (λ (n : ℕ). drop n text) (sym z) in
    let q = rw d at (run_skip p k (drop s text) (omega arith)) in
    omega arith

-- where a test and what follows it succeed, the test holds, and what follows it succeeds
went_past : {A B : Type 0} (b : Bool) (why : Why) (v : A) (m : ℕ) (k : A → ℕ → Res B) (c : B) (n : ℕ) → bind (when b why (ok v m)) k ≡ ok c n
    → (b ≡ true) × (k v m ≡ ok c n)
went_past true why v m k c n e = (refl, e)
went_past false why v m k c n e = absurd (fail_not_ok why c n e)

-- ---- a pair in three parts: the name up to e, once a name can begin; `=`; then the value, and perhaps a comma
abbrev valued : List ℕ → Span → ℕ → Res Pair
valued text left n = bind (alt quoted unquoted text n) (λ right k. ok (pair left right) (after_tag (bytes ",") text k))

abbrev equalled : List ℕ → Span → ℕ → Res Pair
equalled text left m = bind (when (tagged (bytes "=") text m) other_text (ok (tt {0}) (m + 1))) (λ _ n. valued text left n)

abbrev named : List ℕ → ℕ → ℕ → Res Pair
named text s e = bind (when (ltb e (length text)) other_text (ok (span s e) e)) (λ left m. equalled text left m)

-- the same pair with another name
abbrev titled : Span → Res Pair → Res Pair
titled n (fail why) = fail why
titled n (ok (pair left right) k) = ok (pair n right) k

module _ (text : List ℕ) where
  abbrev name_end : ℕ → ℕ
  name_end s = run_end (is_none_of (bytes "=")) text s

  begun_here : (s : ℕ) → begins_name text s ≡ true → key_value_pair text s ≡ named text s (name_end s)
  unfolding key_value_pair
  begun_here s b = rw b

  not_begun : (s : ℕ) → begins_name text s ≡ false → key_value_pair text s ≡ fail missing_byte
  unfolding key_value_pair
  not_begun s b = rw b

  begins_there : (s k : ℕ) (p : Pair) → key_value_pair text s ≡ ok p k → begins_name text s ≡ true
  begins_there s k p q = go (begins_name text s) refl
    where
      go : (b : Bool) → begins_name text s ≡ b → begins_name text s ≡ true
      go true e = e
      go false e = absurd (fail_not_ok missing_byte p k (sym (not_begun s e) ∙ q))

  -- where the name starts changes nothing else
  module _ (a b : Span) where
    valued_titled : (n : ℕ) → valued text b n ≡ titled b (valued text a n)
    valued_titled n = go (alt quoted unquoted text n)
      where
        go : (r : Res QuotedOrUnquoted)
            → bind r (λ right k. ok (pair b right) (after_tag (bytes ",") text k)) ≡ titled b (bind r (λ right k. ok (pair a right) (after_tag (bytes ",") text k)))
        go (fail why) = refl
        go (ok v k) = refl

    equalled_titled : (m : ℕ) → equalled text b m ≡ titled b (equalled text a m)
    equalled_titled m = go (tagged (bytes "=") text m)
      where
        go : (c : Bool) → bind (when c other_text (ok (tt {0}) (m + 1))) (λ _ n. valued text b n) ≡ titled b (bind (when c other_text (ok (tt {0}) (m + 1))) (λ _ n. valued text a n))
        go true = valued_titled (m + 1)
        go false = refl

  named_titled : (s i e : ℕ) → named text i e ≡ titled (span i e) (named text s e)
  named_titled s i e = go (ltb e (length text))
    where
      go : (c : Bool) → bind (when c other_text (ok (span i e) e)) (λ left m. equalled text left m) ≡ titled (span i e) (bind (when c other_text (ok (span s e) e)) (λ left m. equalled text left m))
      go true = equalled_titled (span s e) (span i e) e
      go false = refl

  pub pair_name : (s k : ℕ) (n : Span) (v : QuotedOrUnquoted) → key_value_pair text s ≡ ok (pair n v) k → n ≡ span s (run_end (is_none_of (bytes "=")) text s)
  pair_name s k n v q =
      let e = name_end s in
      let r : named text s e ≡ ok (pair n v) k = sym (begun_here s (begins_there s k (pair n v) q)) ∙ q in
      let same : ok (pair n v) k ≡ ok (pair (span s e) v) k = sym r ∙ named_titled s s e ∙ ap (titled (span s e)) r in
      cc

  -- ---- within the name
  module _ (s i : ℕ) (b : begins_name text s ≡ true) (h : s ≤ i) (l : i ≤ name_end s) where
    inside : begins_name text i ≡ true → key_value_pair text i ≡ titled (span i (name_end s)) (key_value_pair text s)
    inside c =
        begun_here i c
        ∙ ap (named text i) (run_inside (is_none_of (bytes "=")) text s i h l)
        ∙ named_titled s i (name_end s)
        ∙ ap (titled (span i (name_end s))) (sym (begun_here s b))

  pub pair_inside : (s e i k : ℕ) (v : QuotedOrUnquoted) → key_value_pair text s ≡ ok (pair (span s e) v) k → s ≤ i → i ≤ e → begins_name text i ≡ true
      → key_value_pair text i ≡ ok (pair (span i e) v) k
  pair_inside s e i k v q h l c =
      let same = pair_name s k (span s e) v q in
      let z : e ≡ name_end s = cc in
      rw z (inside s i (begins_there s k (pair (span s e) v) q) h (omega arith) c ∙ ap (titled (span i (name_end s))) q)

  -- a byte that ends a line begins no name, and no byte does either
  pub fails_inside : (s i : ℕ) → Fails text s → begins_name text s ≡ true → s ≤ i → i ≤ run_end (is_none_of (bytes "=")) text s → Fails text i
  fails_inside s i f b h l = go (begins_name text i) refl
    where
      go : (c : Bool) → begins_name text i ≡ c → Fails text i
      go true c = record { why = f.why; fails = inside s i b h l c ∙ ap (titled (span i (name_end s))) f.fails }
      go false c = record { why = missing_byte; fails = not_begun i c }

  -- ---- where a value stands
  abbrev Within : ℕ → ℕ → QuotedOrUnquoted → Type 0
  Within a m v = (a ≤ start_of (span_in v)) × (start_of (span_in v) ≤ m)

  quoted_within : (a m : ℕ) (v : QuotedOrUnquoted) → quoted text a ≡ ok v m → Within a m v
  unfolding quoted
  quoted_within a m v q =
      let e = run_end (is_none_of (bytes "\"")) text (a + 1) in
      let opened = went_past (tagged (bytes "\"") text a) other_text tt (a + 1) _ v m q in
      let filled = went_past (ltb (a + 1) e) missing_byte (span (a + 1) e) e _ v m opened.1 in
      let closed = went_past (tagged (bytes "\"") text e) other_text tt (e + 1) _ v m filled.1 in
      let same = closed.1 in
      let value : v ≡ in_quotes (span (a + 1) e) = cc in
      let after : m ≡ e + 1 = cc in
      rw value (omega arith, omega (arith, run_from (is_none_of (bytes "\"")) text (a + 1)))

  unquoted_within : (a m : ℕ) (v : QuotedOrUnquoted) → unquoted text a ≡ ok v m → Within a m v
  unfolding unquoted
  unquoted_within a m v q =
      let e = run_end (is_none_of (bytes ",\r\n")) text a in
      let same = (went_past (ltb a e) missing_byte (span a e) e (λ s k. ok (bare s) k) v m q).1 in
      let value : v ≡ bare (span a e) = cc in
      let after : m ≡ e = cc in
      rw value (omega arith, omega (arith, run_from (is_none_of (bytes ",\r\n")) text a))

  value_within : (a m : ℕ) (v : QuotedOrUnquoted) → alt quoted unquoted text a ≡ ok v m → Within a m v
  value_within a m v q = go (quoted text a) refl q
    where
      go : (r : Res QuotedOrUnquoted) → quoted text a ≡ r → or_else r (unquoted text a) ≡ ok v m → Within a m v
      go (fail why) f e = unquoted_within a m v e
      go (ok w n) f e = quoted_within a m v (f ∙ e)

  -- behind the place where the pair is looked for, and not past the pair
  pub pair_value : (at k : ℕ) (n : Span) (v : QuotedOrUnquoted) → next_pair text at ≡ ok (pair n v) k → (at < start_of (span_in v)) × (start_of (span_in v) ≤ k)
  pair_value at k n v q =
      let s = run_end is_space text at in
      let r = pair_ok text s k n v (sym (next_pair_lem text at) ∙ q) in
      let w = value_within (r.end + 1) r.value_end v r.value in
      let comma = (takes_opt_tag (bytes ",") text r.value_end (after_tag (bytes ",") text r.value_end) tt refl).0 in
      (omega (arith, run_from is_space text at, r.name_long, w.0), omega (arith, w.1, r.after))
