-- Where the values of a list come from: what a list has under a name is the value of a pair that was read there. So a MAP takes the bytes of its URI's pair.
-- Assumes nothing.
use Prim.Native.Nat.{ℕ, zero, suc, ◌-◌, ◌≤◌, ◌<◌}
use mathlib.Core.Path.{◌≡◌, refl, sym, ◌∙◌}
use mathlib.Core.Bool.{Bool, true, false, cond}
use mathlib.Core.List.{List, [], ◌∷◌}
use mathlib.Core.Option.{Option, none, some}
use mathlib.Core.Logic.{◌⊎◌, inl, inr, ⊎_elim}
use native.Mathlib.Omega.{arith}
use native.Mathlib.Nat.{le_refl}
use lib.ListN.{length}
use Rattle.text.specs.Why.{no_uri, uri_not_quoted, range_not_quoted, range_bad}
use Rattle.text.specs.Nom.{Res, fail, ok, Span, span, bytes, place}
use Rattle.text.specs.Many.{many0, items, stop}
use Rattle.text.specs.Util.{ByteRange, byte_range_val, spells}
use Rattle.text.proofs.Many.{many_stop, items_step, stop_step}
use Rattle.text.proofs.Takes.{Takes, bind_ok, fail_not_ok, takes_place, takes_done, takes_bind}
use Rattle.attributes.specs.Pairs.{QuotedOrUnquoted, bare, in_quotes, Pair, pair, next_pair, key_value_pairs, inserted, get}
use Rattle.attributes.specs.ExtMap.{ext_map, uri_of, begun, range_of, extmap}
use Rattle.attributes.proofs.Takes.{takes_next_pair, takes_key_value_pairs}
use Rattle.attributes.proofs.Walk.{pairs_fall, map_by_attrs}
use Rattle.attributes.proofs.Taken.{next_long}

module _ (text : List ℕ) where
  -- ---- pairs that were read one after the other, from a place to an end
  data InTurn : ℕ → List Pair → ℕ → Type 0 where
    ended : {at : ℕ} → InTurn at [] at
    then : {at n end : ℕ} {left : Span} {right : QuotedOrUnquoted} {ps : List Pair} → next_pair text at ≡ ok (pair left right) n → InTurn n ps end
        → InTurn at (pair left right ∷ ps) end

  turns_on : {at end : ℕ} {ps : List Pair} → InTurn at ps end → at ≤ end
  turns_on ended = le_refl _
  turns_on (then q t) = omega (arith, (takes_next_pair text _ _ _ q).0, turns_on t)

  -- so are those of a list
  abbrev ListTurns : ℕ → Type 0
  ListTurns at = InTurn at (items (many0 next_pair text at)) (stop (many0 next_pair text at))

  one_turn : (at : ℕ) → ((n : ℕ) → length text - n < length text - at → ListTurns n) → ListTurns at
  one_turn at rest = go (next_pair text at) refl
    where
      go : (r : Res Pair) → next_pair text at ≡ r → ListTurns at
      go (fail why) q = rw (many_stop next_pair text (pairs_fall text) at why q) ended
      go (ok (pair left right) n) q =
          let p = pair left right in
          rw (items_step next_pair text (pairs_fall text) at n p q, stop_step next_pair text (pairs_fall text) at n p q) (then q (rest n (pairs_fall text at n p q)))

  list_turns : (f at : ℕ) → length text - at ≤ f → ListTurns at
  list_turns zero at h = one_turn at (λ n l. absurd (omega arith))
  list_turns (suc f) at h = one_turn at (λ n l. list_turns f n (omega arith))

  -- ---- from `at` to `end` a pair of this name was read that has this value
  pub record Came (name : List ℕ) (at end : ℕ) (v : QuotedOrUnquoted) : Type 0 where
    pub left : Span
    pub from : ℕ
    pub to : ℕ
    pub read : next_pair text from ≡ ok (pair left v) to
    pub spelt : spells text left name ≡ true
    pub not_before : at ≤ from
    pub not_after : to ≤ end

  module _ (name : List ℕ) where
    -- one pair more in front
    module _ {at n end : ℕ} {left : Span} {right : QuotedOrUnquoted} (q : next_pair text at ≡ ok (pair left right) n) where
      first : spells text left name ≡ true → n ≤ end → Came name at end right
      first t h = record { left = left; from = at; to = n; read = q; spelt = t; not_before = le_refl at; not_after = h }

      further : {v : QuotedOrUnquoted} → Came name n end v → Came name at end v
      further c =
          let moved = (takes_next_pair text at n (pair left right) q).0 in
          let after : at ≤ c.from = omega (arith, c.not_before) in
          record { left = c.left; from = c.from; to = c.to; read = c.read; spelt = c.spelt; not_before = after; not_after = c.not_after }

      here_or_held : n ≤ end → (held : Option QuotedOrUnquoted) (v : QuotedOrUnquoted) → cond (spells text left name) (some right) held ≡ some v
          → (held ≡ some v) ⊎ Came name at end v
      here_or_held h held v e = go (spells text left name) refl e
        where
          go : (b : Bool) → spells text left name ≡ b → cond b (some right) held ≡ some v → (held ≡ some v) ⊎ Came name at end v
          go true t e = let same : right ≡ v = cc in inr (rw (← same) (first t h))
          go false t e = inl e

    came : {at end : ℕ} {ps : List Pair} → InTurn at ps end → (held : Option QuotedOrUnquoted) (v : QuotedOrUnquoted) → inserted text name held ps ≡ some v
        → (held ≡ some v) ⊎ Came name at end v
    unfolding inserted
    came ended held v e = inl e
    came (then {left = left} {right = right} q t) held v e =
        let kept = cond (spells text left name) (some right) held in
        ⊎_elim (here_or_held q (turns_on t) held v) (λ c. inr (further q c)) (came t kept v e)

    -- what a list has under a name is the value of a pair of it
    pub got : (at : ℕ) (v : QuotedOrUnquoted) → get text name (items (many0 next_pair text at)) ≡ some v → Came name at (stop (many0 next_pair text at)) v
    got at v e = ⊎_elim (λ z. absurd (nothing z)) (λ c. c) (came (list_turns (length text - at) at (le_refl (length text - at))) none v e)
      where
        nothing : none ≡ some v → ⊥
        nothing z = let w : ◌≡◌ {A = ℕ} 0 1 = cc in omega arith

-- ---- a MAP
takes_uri : (v : Option QuotedOrUnquoted) → Takes 0 (uri_of v)
takes_uri none = λ text at n a e. absurd (fail_not_ok no_uri a n e)
takes_uri (some (bare s)) = λ text at n a e. absurd (fail_not_ok uri_not_quoted a n e)
takes_uri (some (in_quotes s)) = takes_done s

takes_begun : (r : Res ByteRange) → Takes 0 (λ text at. begun r at)
takes_begun (fail why) = λ text at n a e. absurd (fail_not_ok range_bad a n e)
takes_begun (ok r m) = takes_done (some r)

takes_range_of : (v : Option QuotedOrUnquoted) → Takes 0 (range_of v)
takes_range_of none = takes_done none
takes_range_of (some (bare s)) = λ text at n a e. absurd (fail_not_ok range_not_quoted a n e)
takes_range_of (some (in_quotes (span s t))) = λ text. takes_begun (byte_range_val text s) text

-- it ends within the text
no_further : Takes 0 extmap
unfolding extmap
no_further =
    takes_bind 0 0 place _ takes_place (λ from.
    takes_bind 0 0 key_value_pairs _ takes_key_value_pairs (λ attrs.
    takes_bind 0 0 place _ takes_place (λ to.
    takes_bind 0 0 (λ text. uri_of (get text (bytes "URI") attrs) text) _ (λ text. takes_uri (get text (bytes "URI") attrs) text) (λ uri.
    takes_bind 0 0 (λ text. range_of (get text (bytes "BYTERANGE") attrs) text) _ (λ text. takes_range_of (get text (bytes "BYTERANGE") attrs) text) (λ byteRange.
    takes_done (ext_map uri byteRange (span from to)))))))

uri_ok : (v : Option QuotedOrUnquoted) (text : List ℕ) (at n : ℕ) (u : Span) → uri_of v text at ≡ ok u n → (v ≡ some (in_quotes u)) × (n ≡ at)
uri_ok none text at n u e = absurd (fail_not_ok no_uri u n e)
uri_ok (some (bare s)) text at n u e = absurd (fail_not_ok uri_not_quoted u n e)
uri_ok (some (in_quotes s)) text at n u e = (cc, cc)

-- `URI="x"` is there
pub takes_extmap : Takes 7 extmap
takes_extmap text at n a e =
    let m = many0 next_pair text at in
    let uri = get text (bytes "URI") (items m) in
    let range = get text (bytes "BYTERANGE") (items m) in
    let u = bind_ok (uri_of uri text (stop m)) _ a n (sym (map_by_attrs text at uri range (stop m) refl refl refl) ∙ e) in
    let there = uri_ok uri text (stop m) u.1 u.0 u.2 in
    let c = got text (bytes "URI") at (in_quotes u.0) there.0 in
    let long = next_long text c.from c.to c.left u.0 c.read (bytes "URI") c.spelt in
    let r = bind_ok (range_of range text u.1) _ a n u.3 in
    let past = (takes_range_of range text u.1 r.1 r.0 r.2).0 in
    let last = r.3 in
    let end : r.1 ≡ n = cc in
    (omega (arith, c.not_before, c.not_after, there.1), (no_further text at n a e).1)
