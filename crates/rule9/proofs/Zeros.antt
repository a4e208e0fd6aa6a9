-- A clip without flags: its words of range and map keep the rule exactly where all of them are zeros, for a span from 0 to 0 lies in every text.
-- `zero_words` and `clip_keeps` cite these. Assumes nothing.
use mathlib.Core.Path.{◌≡◌, refl, sym}
use mathlib.Core.Bool.{Bool, true, false, ◌&&◌}
use mathlib.Core.List.{List}
use Prim.Native.Nat.{ℕ, suc, ◌+◌, ◌-◌, ◌≤◌, ◌<◌}
use native.Mathlib.Omega.{arith}
use lib.Dec.{eqb}
use lib.ListN.{length}
use borrow.Author.Tests.{le-leb, eqb-true}
use Rattle.text.specs.Spans.{span_fits}
use Rattle.text.proofs.Laws.{and_left, and_right}
use Rattle.tables.specs.Layout as layout
use Rattle.tables.specs.Table.{every, clip_word, has_flag}
use Rattle.tables.proofs.Every.{every_at}
use Rattle.rule9.specs.Rule9.{flags_keep, range_keeps, map_keeps}
use Rattle.rule9.specs.Inside.Held.{zero_words}

-- a word of flags that holds none keeps its own rule
pub none_keep : flags_keep 0 ≡ true
unfolding flags_keep has_flag
none_keep = refl

-- ---- words that are zeros
module _ (t : List ℕ) (k from : ℕ) where
  -- no word, and one word more
  pub zeros_none : zero_words t k from from ≡ true
  unfolding zero_words every
  zeros_none = let e : from - from ≡ 0 = omega arith in rw e

  pub zeros_step : (place : ℕ) → from ≤ place → zero_words t k from (place + 1) ≡ zero_words t k from place && eqb (clip_word t k place) 0
  unfolding zero_words every
  zeros_step place l =
      let more : place + 1 - from ≡ suc (place - from) = omega arith in
      let at : from + (place - from) ≡ place = omega arith in
      rw more (rw at)

-- ---- a clip without flags
-- two tests that imply each other
each_way : (a b : Bool) → (a ≡ true → b ≡ true) → (b ≡ true → a ≡ true) → a ≡ b
each_way true b f g = sym (f refl)
each_way false true f g = g refl
each_way false false f g = refl

module _ (text t : List ℕ) (k : ℕ) (none : clip_word t k layout.flags ≡ 0) where
  abbrev word : ℕ → ℕ
  word place = clip_word t k place

  -- zeros keep the rule
  zeros_keep : zero_words t k layout.range_length layout.first_tag ≡ true → range_keeps text t k && map_keeps text t k ≡ true
  unfolding zero_words range_keeps map_keeps has_flag
  zeros_keep e =
      let zero : (i : ℕ) → i < layout.first_tag - layout.range_length → word (layout.range_length + i) ≡ 0 = λ i l. eqb-true _ _ (every_at (λ i. eqb (word (layout.range_length + i)) 0) i _ l e) in
      rw (none, zero 0 (omega arith), zero 1 (omega arith), zero 2 (omega arith), zero 3 (omega arith), zero 4 (omega arith), zero 5 (omega arith), zero 6 (omega arith), zero 7 (omega arith))
      (rw (le-leb 0 (length text) (omega arith)))

  -- what keeps it is zeros: test by test, without the spans'
  kept_zeros : range_keeps text t k && map_keeps text t k ≡ true → zero_words t k layout.range_length layout.first_tag ≡ true
  unfolding zero_words every range_keeps map_keeps has_flag
  kept_zeros e =
      let both : (a b : Bool) → a && b ≡ true → (a ≡ true) × (b ≡ true) = λ a b h. (and_left a b h, and_right a b h) in
      let range = both (eqb (word layout.range_length) 0 && eqb (word layout.range_offset) 0) _ (rw none at e) in
      let uri = both (span_fits text (word layout.map_uri_start) (word layout.map_uri_end)) _ range.1 in
      let list = both (span_fits text (word layout.map_list_start) (word layout.map_list_end)) _ uri.1 in
      let uri-start = both (eqb (word layout.map_uri_start) 0) _ list.1 in
      let uri-end = both (eqb (word layout.map_uri_end) 0) _ uri-start.1 in
      let list-start = both (eqb (word layout.map_list_start) 0) _ uri-end.1 in
      let list-end = both (eqb (word layout.map_list_end) 0) _ list-start.1 in
      let map_range = both (eqb (word layout.map_range_length) 0) _ list-end.1 in
      rw (range.0, uri-start.0, uri-end.0, map_range.0, map_range.1, list-start.0, list-end.0)

  pub untold_keeps : zero_words t k layout.range_length layout.first_tag ≡ range_keeps text t k && map_keeps text t k
  untold_keeps = each_way _ _ zeros_keep kept_zeros
