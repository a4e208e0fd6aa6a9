-- The parts of a file, one clip after the other: how many bytes they are, some clips and then others, and entries listed from an index on. For any format.
-- Assumes nothing.
use mathlib.Core.Path.{◌≡◌, refl, sym, ap, ◌∙◌}
use mathlib.Core.Bool.{Bool, true, false, ◌&&◌, and-true}
use mathlib.Core.List.{List, [], ◌∷◌, ◌++◌, append-nil, append_assoc}
use Prim.Native.Nat.{ℕ, zero, suc, ◌+◌, ◌-◌, ◌*◌, ◌<◌}
use native.Mathlib.Nat.{zero-mul, suc-mul, zero-add}
use native.Mathlib.Omega.{arith}
use lib.ListN.{length, length-append}
use Rattle.tables.specs.Table.{every, listed}
use Rattle.tables.proofs.Listed.{listed_none, listed_first, listed_left, listed_append}
use Rattle.cue_file.specs.Format.{Format, Cue, clip_fields, trailer_fields, row_holds, clip_width, trailer_width, clip_values, trailer_values, clip_bytes, trailer_bytes, uris, clips_bytes, file_of, clips_hold}
use Rattle.cue_file.proofs.Rows.{row_length}

-- ---- the URIs
pub uris_append : (a b : List Cue) → uris (a ++ b) ≡ uris a ++ uris b
unfolding uris
uris_append [] b = refl
uris_append (c ∷ a) b = rw (uris_append a b, append_assoc c.uri (uris a) (uris b))

module _ (at : ℕ → Cue) where
  pub uris_none : (k : ℕ) → uris (listed at k 0) ≡ []
  unfolding uris
  uris_none k = rw (listed_none at k)

  -- one more
  pub uris_more : (k : ℕ) → uris (listed at 0 (k + 1)) ≡ uris (listed at 0 k) ++ (at k).uri
  unfolding uris
  uris_more k = rw (listed_append at 0 k 1, uris_append, zero-add k, listed_first at k 0, listed_none at (k + 1), append-nil (at k).uri)

  -- those from entry k on: its own, then those from the next one on
  pub uris_left : (k n : ℕ) → k < n → uris (listed at k (n - k)) ≡ (at k).uri ++ uris (listed at (k + 1) (n - (k + 1)))
  unfolding uris
  uris_left k n h = rw (listed_left at k n h)

module _ (f : Format) where
  -- ---- the records
  pub clip_length : (c : Cue) → length (clip_bytes f c) ≡ clip_width f
  clip_length c = row_length (clip_fields f.clip_widths) (clip_fields (clip_values f c))

  pub trailer_length : (n : ℕ) → length (trailer_bytes f n) ≡ trailer_width f
  trailer_length n = row_length (trailer_fields f.trailer_widths) (trailer_fields (trailer_values f n))

  pub clips_length : (cues : List Cue) → length (clips_bytes f cues) ≡ length cues * clip_width f
  unfolding clips_bytes
  clips_length [] = sym (zero-mul (clip_width f))
  clips_length (c ∷ cues) =
      length-append (clip_bytes f c) (clips_bytes f cues) ∙ omega (arith, clip_length c, clips_length cues, suc-mul (length cues) (clip_width f))

  pub clips_append : (a b : List Cue) → clips_bytes f (a ++ b) ≡ clips_bytes f a ++ clips_bytes f b
  unfolding clips_bytes
  clips_append [] b = refl
  clips_append (c ∷ a) b = rw (clips_append a b, append_assoc (clip_bytes f c) (clips_bytes f a) (clips_bytes f b))

  -- the fields of a clip's record hold their values
  abbrev pub clip_holds : Cue → Bool
  clip_holds c = row_holds (clip_fields f.clip_widths) (clip_fields (clip_values f c))

  pub hold_append : (a b : List Cue) → clips_hold f (a ++ b) ≡ (clips_hold f a && clips_hold f b)
  unfolding clips_hold
  hold_append [] b = refl
  hold_append (c ∷ a) b = go (clip_holds c) (hold_append a b)
    where
      go : (t : Bool) → clips_hold f (a ++ b) ≡ (clips_hold f a && clips_hold f b) → (t && clips_hold f (a ++ b)) ≡ ((t && clips_hold f a) && clips_hold f b)
      go true e = e
      go false e = refl

  module _ (at : ℕ → Cue) where
    -- each of n clips, as `every` tests it
    pub hold_every : (n : ℕ) → clips_hold f (listed at 0 n) ≡ every (λ k. clip_holds (at k)) n
    unfolding clips_hold every
    hold_every zero = ap (clips_hold f) (listed_none at 0)
    hold_every (suc n) =
        let e : suc n ≡ n + 1 = omega arith in
        let last : listed at (0 + n) 1 ≡ at n ∷ []
        = ap (λ (k : ℕ). listed at k 1) (zero-add n) ∙ listed_first at n 0 ∙ ap (λ (l : List Cue). at n ∷ l) (listed_none at (n + 1)) in
        ap (λ (m : ℕ). clips_hold f (listed at 0 m)) e
        ∙ ap (clips_hold f) (listed_append at 0 n 1)
        ∙ hold_append (listed at 0 n) (listed at (0 + n) 1)
        ∙ ap (λ (b : Bool). b && clips_hold f (listed at (0 + n) 1)) (hold_every n)
        ∙ ap (λ (l : List Cue). every (λ k. clip_holds (at k)) n && clips_hold f l) last
        ∙ ap (λ (b : Bool). every (λ k. clip_holds (at k)) n && b) (and-true (clip_holds (at n)))

    pub clips_none : (k : ℕ) → clips_bytes f (listed at k 0) ≡ []
    unfolding clips_bytes
    clips_none k = rw (listed_none at k)

    pub clips_more : (k : ℕ) → clips_bytes f (listed at 0 (k + 1)) ≡ clips_bytes f (listed at 0 k) ++ clip_bytes f (at k)
    unfolding clips_bytes
    clips_more k = rw (listed_append at 0 k 1, clips_append, zero-add k, listed_first at k 0, listed_none at (k + 1), append-nil (clip_bytes f (at k)))

    pub clips_left : (k n : ℕ) → k < n → clips_bytes f (listed at k (n - k)) ≡ clip_bytes f (at k) ++ clips_bytes f (listed at (k + 1) (n - (k + 1)))
    unfolding clips_bytes
    clips_left k n h = rw (listed_left at k n h)

  -- ---- the whole file
  pub file_length : (cues : List Cue) → length (file_of f cues) ≡ length cues * clip_width f + length (uris cues) + trailer_width f
  unfolding file_of
  file_length cues =
      length-append (clips_bytes f cues) (uris cues ++ trailer_bytes f (length cues))
      ∙ omega (arith, clips_length cues, length-append (uris cues) (trailer_bytes f (length cues)), trailer_length (length cues))
