-- The reader's rules, way out by way out of the code: one URI length more, an exact fit, a start, a step of the pass. For any format. Rests on the laws of the
-- reader's checks. Assumes nothing.
use mathlib.Core.Path.{◌≡◌, refl, sym, ap, ◌∙◌}
use mathlib.Core.Bool.{Bool, true, false, cond}
use mathlib.Core.List.{List}
use Prim.Native.Nat.{ℕ, zero, suc, ◌+◌, ◌-◌, ◌*◌, ◌≤◌, ◌<◌}
use native.Mathlib.Numerals.{add-one}
use native.Mathlib.Omega.{arith}
use lib.ListN.{length}
use lib.Dec.{leb, ltb, eqb}
use borrow.Author.Tests.{le-leb, lt-leb, eq-eqb, ne_eqb, eqb-true, eqb-false}
use Rattle.text.specs.Nom.{span}
use Rattle.tables.specs.Layout.{second}
use Rattle.tables.specs.Refusal.{given}
use Rattle.cue_file.specs.Format.{Format, clip_width, trailer_width}
use Rattle.cue_file.specs.Read.{largest_start, cursor, clip, trailer_in, count_in, clip_in, start_in, lengths_in, uri_place, fits_exactly, follows, start_keeps, next}
use Rattle.cue_file.proofs.Pass.{next_given}

module _ (f : Format) (file : List ℕ) where
  -- ---- the URI lengths
  pub lengths_none : lengths_in f file 0 ≡ 0
  unfolding lengths_in
  lengths_none = refl

  -- one length more
  pub lengths_step : (k : ℕ) → lengths_in f file (k + 1) ≡ lengths_in f file k + (clip_in f file k).uri_length
  unfolding lengths_in
  lengths_step k = rw add-one

-- ---- 21
-- the sizes are compared by differences
sizes_past : (uris lengths width size : ℕ) → size - width < uris → eqb (uris + lengths + width) size ≡ false
sizes_past uris lengths width size h = ne_eqb (uris + lengths + width) size (λ e. omega (arith, e, h))

sizes_left : (uris lengths width size : ℕ) → width ≤ size → uris ≤ size - width → eqb lengths (size - width - uris) ≡ eqb (uris + lengths + width) size
sizes_left uris lengths width size w u = go (eqb lengths (size - width - uris)) refl
  where
    go : (b : Bool) → eqb lengths (size - width - uris) ≡ b → b ≡ eqb (uris + lengths + width) size
    go true e = sym (eq-eqb (uris + lengths + width) size (omega (arith, eqb-true lengths (size - width - uris) e)))
    go false e = sym (ne_eqb (uris + lengths + width) size (λ (i : uris + lengths + width ≡ size). eqb-false lengths (size - width - uris) e (omega arith)))

module _ (f : Format) (file : List ℕ) where
  -- past both places, the sizes decide
  fits_sizes : (trailer_in f file).records ≡ 0 → (trailer_in f file).uris ≡ count_in f file * clip_width f
      → fits_exactly f file ≡ eqb (uri_place f file (count_in f file) + trailer_width f) (length file)
  unfolding fits_exactly
  fits_sizes r u = rw (eq-eqb (trailer_in f file).records 0 r, eq-eqb (trailer_in f file).uris (count_in f file * clip_width f) u)

-- the ways out of `fits_exactly`
module _ (f : Format) (file : List ℕ) (n : ℕ) (c : n ≡ count_in f file) where
  pub fits_not_records : ((trailer_in f file).records ≡ 0 → ⊥) → fits_exactly f file ≡ false
  unfolding fits_exactly
  fits_not_records h = rw (ne_eqb (trailer_in f file).records 0 h)

  module _ (r : (trailer_in f file).records ≡ 0) where
    pub fits_not_uris : ((trailer_in f file).uris ≡ n * clip_width f → ⊥) → fits_exactly f file ≡ false
    unfolding fits_exactly
    fits_not_uris h =
        let g : (trailer_in f file).uris ≡ count_in f file * clip_width f → ⊥ = rw c at h in
        rw (eq-eqb (trailer_in f file).records 0 r, ne_eqb (trailer_in f file).uris (count_in f file * clip_width f) g)

    module _ (u : (trailer_in f file).uris ≡ n * clip_width f) where
      pub fits_past : length file - trailer_width f < n * clip_width f → fits_exactly f file ≡ false
      fits_past h = fits_sizes f file r (rw c at u) ∙ sizes_past (count_in f file * clip_width f) _ (trailer_width f) (length file) (rw c at h)

      pub fits_left : trailer_width f ≤ length file → n * clip_width f ≤ length file - trailer_width f
          → eqb (lengths_in f file n) (length file - trailer_width f - n * clip_width f) ≡ fits_exactly f file
      fits_left w h =
          let m = count_in f file in
          rw c (sizes_left (m * clip_width f) (lengths_in f file m) (trailer_width f) (length file) w (rw c at h) ∙ sym (fits_sizes f file r (rw c at u)))

-- ---- 22
module _ (f : Format) (file : List ℕ) where
  -- by the start before, which the first clip has not
  pub follows_by : (k before after : ℕ) → after ≡ start_in f file k → ((k ≡ 0 → ⊥) → before ≡ start_in f file (k - 1)) → cond (eqb k 0) (eqb after 0) (leb before after) ≡ follows f file k
  follows_by zero before after e h = ap (λ (x : ℕ). eqb x 0) e
  follows_by (suc k) before after e h =
      let n : suc k ≡ 0 → ⊥ = λ z. omega (arith, z) in
      let i : suc k - 1 ≡ k = omega arith in
      rw (ne_eqb (suc k) 0 n, e, h n, i)

  module _ (k : ℕ) where
    pub keeps_falls : follows f file k ≡ false → start_keeps f file k ≡ false
    unfolding start_keeps
    keeps_falls e = rw e

    module _ (e : follows f file k ≡ true) where
      pub keeps_late : largest_start < start_in f file k → start_keeps f file k ≡ false
      unfolding start_keeps
      keeps_late h = rw (e, lt-leb (start_in f file k) largest_start h)

      pub keeps_in_time : start_in f file k ≤ largest_start → start_keeps f file k ≡ ltb (clip_in f file k).nanoseconds second
      unfolding start_keeps
      keeps_in_time h = rw (e, le-leb (start_in f file k) largest_start h)

-- ---- a step of the pass that gives a clip, with what the code has in hand
pub next_clip : (f : Format) (file : List ℕ) (n k place start end : ℕ) → k < n → suc k * clip_width f ≤ length file → start ≡ start_in f file k
    → end ≡ place + (clip_in f file k).uri_length → end ≤ length file → next f file (cursor n k place) ≡ given (clip k start (span place end) (cursor n (k + 1) end))
next_clip f file n k place start end l h s e i = rw (s, e, add-one k) (next_given f file n k place l h (rw e at i))
