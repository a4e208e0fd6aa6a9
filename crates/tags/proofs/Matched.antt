-- The first row whose text stands there (`matched`) and the first that holds: within a group no fixed text begins with another, so where one stands there the
-- others fail, and the two differ in the reason alone. Assumes nothing.
use Prim.Native.Nat.{ℕ, zero, suc, ◌<◌}
use mathlib.Core.Path.{◌≡◌, refl, sym, ◌∙◌, ap}
use mathlib.Core.Bool.{Bool, true, false, cond, ◌&&◌, false≢true}
use mathlib.Core.List.{List, [], ◌∷◌, map as mapᴸ}
use mathlib.Core.Option.{Option, none, some, map}
use native.Mathlib.Omega.{arith}
use lib.Dec.{eqb}
use lib.ListN.{length, drop, get_or}
use borrow.Author.Tests.{eqb-true, eq-eqb}
use Rattle.text.specs.Why.{other_text}
use Rattle.text.specs.Nom.{fail, begins, tagged, or_else}
use Rattle.text.proofs.Laws.{and_left, and_right}
use Rattle.text.proofs.Chain.{alt_skip}
use Rattle.tags.specs.Tags.{Row, row, mark, literal, reads, first_of, matched, matched_row, playlist_rows, playlist_tag, segment_rows, segment_tag}
use Rattle.tags.proofs.Rows.{hold_all}

-- ---- what is asked of a group's rows, computed: of two texts neither begins with the other, as they differ at a place that both have; and the last row's only
-- reason is that its text is not there
abbrev pub apart : List ℕ → List ℕ → Bool
apart [] u = false
apart (x ∷ t) [] = false
apart (x ∷ t) (y ∷ u) = cond (eqb x y) (apart t u) true

abbrev pub all_apart : List Row → Bool
all_apart [] = true
all_apart (r ∷ rs) = hold_all (λ q. apart (literal r) (literal q)) rs && all_apart rs

abbrev pub is_mark : Row → Bool
is_mark (row t p f) = false
is_mark (mark t x) = true

abbrev pub last_mark : List Row → Bool
last_mark [] = true
last_mark (r ∷ []) = is_mark r
last_mark (r ∷ q ∷ rs) = last_mark (q ∷ rs)

not_both : (t u s : List ℕ) → apart t u ≡ true → begins t s ≡ true → begins u s ≡ false
unfolding begins
not_both [] u s d h = absurd (false≢true d)
not_both (x ∷ t) [] s d h = absurd (false≢true d)
not_both (x ∷ t) (y ∷ u) [] d h = refl
not_both (x ∷ t) (y ∷ u) (z ∷ s) d h = go (eqb z y) refl (λ e. not_both t u s e (and_right (eqb z x) (begins t s) h))
  where
    go : (b : Bool) → eqb z y ≡ b → (apart t u ≡ true → begins u s ≡ false) → (b && begins u s) ≡ false
    go true e ih = ih (rw (eq-eqb x y (sym (eqb-true z x (and_left (eqb z x) (begins t s) h)) ∙ eqb-true z y e)) at d)
    go false e ih = refl

module _ (text : List ℕ) (at : ℕ) where
  -- a row whose text is not there fails for that reason
  pub row_fixed : (r : Row) → tagged (literal r) text at ≡ false → reads r text at ≡ fail other_text
  row_fixed (row t p f) e = rw e
  row_fixed (mark t x) e = rw e

  -- a row by itself
  pub one_row : (r : Row) → reads r text at ≡ matched (r ∷ []) text at
  unfolding matched
  one_row r = go (tagged (literal r) text at) refl
    where
      go : (b : Bool) → tagged (literal r) text at ≡ b → reads r text at ≡ cond b (reads r text at) (fail other_text)
      go true e = refl
      go false e = row_fixed r e

  -- where a text stands, none that is apart from it does
  pub others : (t : List ℕ) → tagged t text at ≡ true → (rs : List Row) → hold_all (λ q. apart t (literal q)) rs ≡ true → matched rs text at ≡ fail other_text
  unfolding matched tagged
  others t h [] d = refl
  others t h (r ∷ rs) d =
      let a = apart t (literal r) in
      let more = hold_all (λ q. apart t (literal q)) rs in
      rw (not_both t (literal r) (drop at text) (and_left a more d) h) (others t h rs (and_right a more d))

  -- but for the reason, the first row whose text is there is the first that holds
  pub first_matched : (rs : List Row) → all_apart rs ≡ true → last_mark rs ≡ true → or_else (matched rs text at) (fail other_text) ≡ first_of (mapᴸ reads rs) text at
  unfolding matched
  first_matched [] d z = refl
  first_matched (row t p f ∷ []) d z = absurd (false≢true z)
  first_matched (mark t x ∷ []) d z = go (tagged t text at) refl
    where
      go : (b : Bool) → tagged t text at ≡ b → or_else (cond b (reads (mark t x) text at) (fail other_text)) (fail other_text) ≡ reads (mark t x) text at
      go true e = rw e
      go false e = rw e
  first_matched (r ∷ q ∷ rs) d z = go (tagged (literal r) text at) refl (first_matched (q ∷ rs) (and_right far (all_apart (q ∷ rs)) d) z)
    where
      far : Bool
      far = hold_all (λ x. apart (literal r) (literal x)) (q ∷ rs)

      go : (b : Bool) → tagged (literal r) text at ≡ b → or_else (matched (q ∷ rs) text at) (fail other_text) ≡ first_of (mapᴸ reads (q ∷ rs)) text at
          → or_else (cond b (reads r text at) (matched (q ∷ rs) text at)) (fail other_text) ≡ or_else (reads r text at) (first_of (mapᴸ reads (q ∷ rs)) text at)
      go true e ih = ap (or_else (reads r text at)) (rw (others (literal r) e (q ∷ rs) (and_left far (all_apart (q ∷ rs)) d)) at ih)
      go false e ih = alt_skip _ _ _ other_text (row_fixed r e) ih

  pub playlist_matched : or_else (matched playlist_rows text at) (fail other_text) ≡ playlist_tag text at
  unfolding playlist_tag
  playlist_matched = first_matched playlist_rows refl refl

  pub segment_matched : or_else (matched segment_rows text at) (fail other_text) ≡ segment_tag text at
  unfolding segment_tag
  segment_matched = first_matched segment_rows refl refl

  -- ---- the number of that row: its text stands there, none before it does, and it has the answer; none where no row's text stands there
  pub record Stands (rs : List Row) (k : ℕ) : Type 0 where
    pub within : k < length rs
    pub there : tagged (get_or (mapᴸ literal rs) k []) text at ≡ true
    pub before : (j : ℕ) → j < k → tagged (get_or (mapᴸ literal rs) j []) text at ≡ false
    pub answer : matched rs text at ≡ get_or (mapᴸ reads rs) k (first_of []) text at

  abbrev pub StandsAt : List Row → Option ℕ → Type 0
  StandsAt rs none = matched rs text at ≡ fail other_text
  StandsAt rs (some k) = Stands rs k

  stands_later : (r : Row) (rs : List Row) (o : Option ℕ) → tagged (literal r) text at ≡ false → StandsAt rs o → StandsAt (r ∷ rs) (map suc o)
  unfolding matched
  stands_later r rs none e h = rw e h
  stands_later r rs (some k) e h = record { within = omega (arith, h.within); there = h.there; before = go; answer = rw e h.answer }
    where
      go : (j : ℕ) → j < suc k → tagged (get_or (mapᴸ literal (r ∷ rs)) j []) text at ≡ false
      go zero l = e
      go (suc j) l = h.before j (omega arith)

  pub stands : (rs : List Row) → StandsAt rs (matched_row rs text at)
  unfolding matched matched_row
  stands [] = refl
  stands (r ∷ rs) = go (tagged (literal r) text at) refl (stands rs)
    where
      go : (b : Bool) → tagged (literal r) text at ≡ b → StandsAt rs (matched_row rs text at) → StandsAt (r ∷ rs) (cond b (some 0) (map suc (matched_row rs text at)))
      go true e ih = record { within = omega arith; there = e; before = λ j l. absurd (omega arith); answer = rw e }
      go false e ih = stands_later r rs (matched_row rs text at) e ih
