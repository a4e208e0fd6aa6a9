-- What the reader's checks say: 19, 20, 21 and 22 as one front, each of them by itself, and where a clip's record and URI lie in a file that passes.
-- For any format. Assumes nothing.
use mathlib.Core.Path.{◌≡◌, ◌∙◌}
use mathlib.Core.Bool.{true, false, ◌&&◌, and-eq-true_iff}
use mathlib.Core.List.{List}
use Prim.Native.Nat.{ℕ, suc, ◌+◌, ◌-◌, ◌*◌, ◌≤◌, ◌<◌}
use native.Mathlib.Nat.{le_refl, mul-le-mul_right}
use native.Mathlib.Decide.{le_ind}
use native.Mathlib.Omega.{arith}
use lib.Dec.{leb, ltb, eqb}
use lib.ListN.{length}
use borrow.Author.Tests.{eq-eqb, ne_eqb, eqb-true, le-leb, lt-leb, leb-true, lt-ltb, le-ltb, ltb-true}
use Rattle.tables.specs.Layout.{second}
use Rattle.tables.specs.Table.{every}
use Rattle.tables.specs.Refusal.{Answer, refused, given, file_too_short, other_version, not_exact, bad_start, no_such_clip}
use Rattle.tables.proofs.Every.{every_at}
use Rattle.tables.proofs.Refusals.{Front, front_or, front_then, front_as}
use Rattle.cue_file.specs.Format.{Format, clip_width, trailer_width}
use Rattle.cue_file.specs.Read.{largest_start, Found, found, Cursor, cursor, trailer_in, count_in, clip_in, start_in, lengths_in, uri_place, uri_in, fits_exactly, follows, start_keeps, judged, cue_read, cues}

module _ (f : Format) (file : List ℕ) where
  -- ---- sums of URI lengths
  pub lengths_mono : (i j : ℕ) → i ≤ j → lengths_in f file i ≤ lengths_in f file j
  unfolding lengths_in
  lengths_mono i j h = le_ind (λ (m : ℕ). lengths_in f file i ≤ lengths_in f file m) (le_refl (lengths_in f file i)) (λ m k e. omega arith) j h

  pub place_step : (k : ℕ) → uri_place f file (suc k) ≡ uri_place f file k + (clip_in f file k).uri_length
  unfolding lengths_in
  place_step k = omega arith

  -- ---- 21
  pub record Exact : Type 0 where
    pub records : (trailer_in f file).records ≡ 0
    pub place : (trailer_in f file).uris ≡ count_in f file * clip_width f
    pub end : uri_place f file (count_in f file) + trailer_width f ≡ length file

  pub fits_exact : fits_exactly f file ≡ true → Exact
  unfolding fits_exactly
  fits_exact e =
      let n = count_in f file * clip_width f in
      let p = (and-eq-true_iff (eqb (trailer_in f file).records 0) _).0 e in
      let q = (and-eq-true_iff (eqb (trailer_in f file).uris n) (eqb (uri_place f file (count_in f file) + trailer_width f) (length file))).0 p.1 in
      record {
        records = eqb-true (trailer_in f file).records 0 p.0;
        place = eqb-true (trailer_in f file).uris n q.0;
        end = eqb-true (uri_place f file (count_in f file) + trailer_width f) (length file) q.1;
      }

  pub exact_fits : Exact → fits_exactly f file ≡ true
  unfolding fits_exactly
  exact_fits x =
      rw (
        eq-eqb (trailer_in f file).records 0 x.records,
        eq-eqb (trailer_in f file).uris (count_in f file * clip_width f) x.place,
        eq-eqb (uri_place f file (count_in f file) + trailer_width f) (length file) x.end,
      )

  -- ---- 22
  pub record GoodStart (k : ℕ) : Type 0 where
    pub after : follows f file k ≡ true
    pub high : start_in f file k ≤ largest_start
    pub nanoseconds : (clip_in f file k).nanoseconds < second

  pub good_start : (k : ℕ) → start_keeps f file k ≡ true → GoodStart k
  unfolding start_keeps
  good_start k e =
      let p = (and-eq-true_iff (follows f file k) (leb (start_in f file k) largest_start && ltb (clip_in f file k).nanoseconds second)).0 e in
      let q = (and-eq-true_iff (leb (start_in f file k) largest_start) (ltb (clip_in f file k).nanoseconds second)).0 p.1 in
      record { after = p.0; high = leb-true (start_in f file k) largest_start q.0; nanoseconds = ltb-true (clip_in f file k).nanoseconds second q.1 }

  pub start_good : (k : ℕ) → GoodStart k → start_keeps f file k ≡ true
  unfolding start_keeps
  start_good k x =
      rw (x.after, le-leb (start_in f file k) largest_start x.high, lt-ltb (clip_in f file k).nanoseconds second x.nanoseconds)

  -- ---- 19, 20, 21, 22
  pub record Takes : Type 0 where
    pub long : trailer_width f ≤ length file
    pub version : (trailer_in f file).version ≡ f.number
    pub fits : fits_exactly f file ≡ true
    pub starts : every (start_keeps f file) (count_in f file) ≡ true

  pub judged_front : Front (λ A x. judged f file x) Takes
  unfolding judged
  judged_front =
      front_as _
      (λ h. record {
        long = leb-true (trailer_width f) (length file) h.0;
        version = eqb-true (trailer_in f file).version f.number h.1.0;
        fits = h.1.1.0;
        starts = h.1.1.1;
      })
      (λ g. (le-leb (trailer_width f) (length file) g.long, (eq-eqb (trailer_in f file).version f.number g.version, (g.fits, g.starts))))
      (front_then _ _ (front_or file_too_short 0 (leb (trailer_width f) (length file)))
      (front_then _ _ (front_or other_version 0 (eqb (trailer_in f file).version f.number))
      (front_then _ _ (front_or not_exact 0 (fits_exactly f file)) (front_or bad_start 0 (every (start_keeps f file) (count_in f file))))))

  module _ {A : Type 0} (x : Answer A) where
    pub judged_19 : length file < trailer_width f → judged f file x ≡ refused file_too_short 0
    unfolding judged
    judged_19 h = rw (lt-leb (trailer_width f) (length file) h)

    module _ (long : trailer_width f ≤ length file) where
      pub judged_20 : ((trailer_in f file).version ≡ f.number → ⊥) → judged f file x ≡ refused other_version 0
      unfolding judged
      judged_20 h = rw (le-leb (trailer_width f) (length file) long, ne_eqb (trailer_in f file).version f.number h)

      module _ (version : (trailer_in f file).version ≡ f.number) where
        pub judged_21 : fits_exactly f file ≡ false → judged f file x ≡ refused not_exact 0
        unfolding judged
        judged_21 h = rw (le-leb (trailer_width f) (length file) long, eq-eqb (trailer_in f file).version f.number version, h)

        pub judged_22 : fits_exactly f file ≡ true → every (start_keeps f file) (count_in f file) ≡ false → judged f file x ≡ refused bad_start 0
        unfolding judged
        judged_22 e h = rw (le-leb (trailer_width f) (length file) long, eq-eqb (trailer_in f file).version f.number version, e, h)

  -- ---- the answers
  module _ (g : Takes) where
    pub read_given : (k : ℕ) → k < count_in f file → cue_read f file k ≡ given (found (start_in f file k) (uri_in f file k) (count_in f file))
    unfolding cue_read
    read_given k h = judged_front.on _ g ∙ rw (lt-ltb k (count_in f file) h)

    pub read_14 : (k : ℕ) → count_in f file ≤ k → cue_read f file k ≡ refused no_such_clip 0
    unfolding cue_read
    read_14 k h = judged_front.on _ g ∙ rw (le-ltb k (count_in f file) h)

    pub cues_given : cues f file ≡ given (cursor (count_in f file) 0 (uri_place f file 0))
    unfolding cues
    cues_given = judged_front.on _ g

  -- what was given comes from a file that passes
  pub cues_takes : (c : Cursor) → cues f file ≡ given c → Takes
  unfolding cues
  cues_takes c e = (judged_front.passed _ c e).0

  pub read_takes : (k : ℕ) (x : Found) → cue_read f file k ≡ given x → Takes
  unfolding cue_read
  read_takes k x e = (judged_front.passed _ x e).0

  pub read_is : (k : ℕ) (x : Found) → cue_read f file k ≡ given x → (k < count_in f file) × (x ≡ found (start_in f file k) (uri_in f file k) (count_in f file))
  unfolding cue_read
  read_is k x e =
      let here = found (start_in f file k) (uri_in f file k) (count_in f file) in
      let p = (front_then _ _ judged_front (front_or no_such_clip 0 (ltb k (count_in f file)))).passed (given here) x e in
      let q : given here ≡ given x = p.1 in
      (ltb-true k (count_in f file) p.0.1, cc)

  -- a file of which a clip is given opens for a pass
  pub read_opens : (k : ℕ) (x : Found) → cue_read f file k ≡ given x → cues f file ≡ given (cursor (count_in f file) 0 (uri_place f file 0))
  read_opens k x e = cues_given (read_takes k x e)

  -- ---- where things lie
  module _ (g : Takes) (k : ℕ) (h : k < count_in f file) where
    pub start_in_lem : GoodStart k
    start_in_lem = good_start k (every_at (start_keeps f file) k (count_in f file) h g.starts)

    pub uri_within : uri_place f file (suc k) ≤ length file - trailer_width f
    uri_within = let x = fits_exact g.fits in omega (arith, lengths_mono (suc k) (count_in f file) h)

    pub clip_within : suc k * clip_width f ≤ length file - trailer_width f
    clip_within = let x = fits_exact g.fits in omega (arith, mul-le-mul_right (clip_width f) h)
