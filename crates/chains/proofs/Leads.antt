-- A list that comes to a place between two of its pairs, and the list that begins there. So a chain may go on along its list. Assumes nothing.
use Prim.Native.Nat.{ℕ, ◌≤◌, ◌<◌}
use mathlib.Core.Path.{◌≡◌, refl, sym, ◌∙◌, ap}
use mathlib.Core.Bool.{Bool, true, false, cond}
use mathlib.Core.List.{List, map}
use mathlib.Core.Option.{Option, none, some}
use native.Mathlib.Omega.{arith}
use native.Mathlib.Nat.{le_refl}
use lib.Dec.{ltb}
use lib.ListN.{length}
use borrow.Author.Tests.{ltb-false, lt-ltb, le-ltb}
use Rattle.text.specs.Nom.{ok, Span, is_space, run_end}
use Rattle.text.specs.Many.{many0, items, stop}
use Rattle.text.specs.Util.{spells}
use Rattle.text.proofs.Many.{items_step}
use Rattle.attributes.specs.Pairs.{QuotedOrUnquoted, Pair, pair, key_value_pair, next_pair, inserted}
use Rattle.attributes.specs.Held.{laid}
use Rattle.attributes.proofs.Takes.{takes_next_pair}
use Rattle.attributes.proofs.Walk.{pairs_fall, ends_step}
use Rattle.attributes.proofs.Source.{got}
use Rattle.chains.specs.Inside.Kept.{start_of, span_in, has, later, Leads, Chain, chain, TrueChain, Forward, begun}
use Rattle.chains.proofs.Pairs.{next_pair_lem, pair_name, pair_value}
use Rattle.chains.proofs.Overlaid.{either, inserted_either}

-- ---- what stands behind a place
later_there : (b : ℕ) (v : QuotedOrUnquoted) → b < start_of (span_in v) → later b (some v) ≡ some v
later_there b v h = rw (lt-ltb b (start_of (span_in v)) h)

later_not : (b : ℕ) (v : QuotedOrUnquoted) → start_of (span_in v) ≤ b → later b (some v) ≡ none
later_not b v h = rw (le-ltb b (start_of (span_in v)) h)

pub later_later : (a b : ℕ) (x : Option QuotedOrUnquoted) → a ≤ b → later b (later a x) ≡ later b x
later_later a b none h = refl
later_later a b (some v) h = go (ltb a (start_of (span_in v))) refl
  where
    go : (c : Bool) → ltb a (start_of (span_in v)) ≡ c → later b (cond c (some v) none) ≡ later b (some v)
    go true e = refl
    go false e = sym (later_not b v (omega (arith, ltb-false a (start_of (span_in v)) e)))

module _ (text : List ℕ) where
  -- all that a list has stands behind its beginning
  pub has_later : (at : ℕ) (name : List ℕ) → later at (has text at name) ≡ has text at name
  has_later at name = go (has text at name) refl
    where
      go : (x : Option QuotedOrUnquoted) → has text at name ≡ x → later at x ≡ x
      go none e = refl
      go (some v) e =
          let c = got text name at v e in
          later_there at v (omega (arith, c.not_before, (pair_value text c.from c.to c.left v c.read).0))

  -- ---- a list leads to where it begins, past its first pair, and so past any
  pub leads_none : (at : ℕ) → Leads text at at
  leads_none at = record { on = le_refl at; ends = refl; tails = λ name. sym (has_later at name) }

  pub leads_step : (at n : ℕ) (p : Pair) → next_pair text at ≡ ok p n → Leads text at n
  unfolding inserted
  leads_step at n (pair left right) q =
      record { on = omega (arith, (takes_next_pair text at n (pair left right) q).0); ends = ends_step text at n (pair left right) q; tails = tails }
    where
      -- what the list has besides its first pair; that pair's value does not stand behind the pair
      behind : (x : Option QuotedOrUnquoted) (b : Bool) → later n x ≡ x → x ≡ later n (either x (cond b (some right) none))
      behind (some v) b e = sym e
      behind none true e = sym (later_not n right (pair_value text at n left right q).1)
      behind none false e = refl

      tails : (name : List ℕ) → has text n name ≡ later n (has text at name)
      tails name =
          let b = spells text left name in
          let rest = items (many0 next_pair text n) in
          behind (has text n name) b (has_later n name)
          ∙ ap (later n) (sym (inserted_either text name (cond b (some right) none) rest))
          ∙ rw (items_step next_pair text (pairs_fall text) at n (pair left right) q)

  pub leads_on : (a b c : ℕ) → Leads text a b → Leads text b c → Leads text a c
  leads_on a b c x y =
      record {
        on = omega (arith, x.on, y.on);
        ends = x.ends ∙ y.ends;
        tails = λ name. y.tails name ∙ ap (later c) (x.tails name) ∙ later_later b c (has text a name) y.on;
      }

  -- ---- chains
  pair_there : (at k : ℕ) (n : Span) (v : QuotedOrUnquoted) → next_pair text at ≡ ok (pair n v) k → key_value_pair text (start_of n) ≡ ok (pair n v) k
  pair_there at k n v q =
      let s = run_end is_space text at in
      let r : key_value_pair text s ≡ ok (pair n v) k = sym (next_pair_lem text at) ∙ q in
      let start : start_of n ≡ s = ap start_of (pair_name text s k n v r) in
      rw start r

  pub chain_step : (c : Chain) (u : QuotedOrUnquoted) (n : Span) (v : QuotedOrUnquoted) (k : ℕ) → c.value ≡ some u → next_pair text c.next ≡ ok (pair n v) k
      → Forward text c (chain n (some v) k c.end)
  chain_step c u n v k h q names kept t w e =
      let known = t u h in
      let same : v ≡ w = cc in
      record {
        read = rw (← same) (pair_there c.next k n v q);
        ends = sym (ends_step text c.next k (pair n v) q) ∙ known.ends;
        from = known.from;
        leads = leads_on known.from c.next k known.leads (leads_step c.next k (pair n v) q);
        holds = known.holds;
      }

  pub chain_begun : (names : List (List ℕ)) (at k end : ℕ) (p : Pair) (held : List ℕ) → next_pair text at ≡ ok p k → end ≡ stop (many0 next_pair text at)
      → held ≡ laid (length held) (map (has text at) names) → TrueChain text names (begun p k end) held
  chain_begun names at k end (pair n v) held q l h w e =
      let same : v ≡ w = cc in
      record {
        read = rw (← same) (pair_there at k n v q);
        ends = sym (ends_step text at k (pair n v) q) ∙ sym l;
        from = at;
        leads = leads_step at k (pair n v) q;
        holds = h;
      }
