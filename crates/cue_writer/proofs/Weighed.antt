-- What is weighed before the first byte is put is what the rule asks: the fields that may be too narrow, and the file's size. Assumes nothing.
use Prim.Native.Nat.{ℕ, zero, suc, ◌+◌, ◌-◌, ◌*◌, ◌/◌, ◌%◌, ◌^◌, ◌≤◌, ◌<◌}
use mathlib.Core.Path.{◌≡◌, refl, ap, ◌∙◌}
use mathlib.Core.Bool.{Bool, true, false, ◌&&◌, and-true, and-false, and-eq-true_iff}
use mathlib.Core.List.{List, ◌++◌}
use native.Mathlib.Nat.{le_refl}
use native.Mathlib.Numerals.{add-one}
use native.Mathlib.Omega.{arith}
use lib.Dec.{leb}
use lib.ListN.{length, length-append, length-drop}
use lib.Seq.{length-take-le}
use borrow.Author.Tests.{leb-true, leb-false, le-leb, lt-leb, lt-ltb, le-ltb}
use Rattle.text.specs.Nom.{span}
use Rattle.text.specs.Spans.{span_in, shown}
use Rattle.text.proofs.Spans.{span_within}
use Rattle.tables.specs.Layout.{second, uri_start, uri_end}
use Rattle.tables.specs.Table.{every, clip_word}
use Rattle.tables.proofs.Every.{every_at, every_fails}
use Rattle.tables.proofs.Listed.{listed_length}
use Rattle.clock.specs.Clock.{largest_total, sum_lengths}
use Rattle.clock.proofs.Lengths.{sum_mono}
use Rattle.clock.proofs.Calls.{Timed}
use Rattle.cue_file.specs.Format.{version1, holds, clip_width, uris, file_holds}
use Rattle.cue_file.specs.Write.{cue_of, cues_of, written}
use Rattle.cue_file.proofs.Sizes.{uris_none, uris_more, clip_holds, hold_every, file_length}
use Rattle.cue_file.proofs.Kept.{span_passes}
use Rattle.cue_writer.specs.Inside.Measure.{largest, uri_length, fields_hold, uris_size, size}

-- a field of two bytes
holds_two : (x : ℕ) → holds 2 x ≡ leb x largest
holds_two x = go (leb x largest) refl
  where
    go : (b : Bool) → leb x largest ≡ b → holds 2 x ≡ b
    go true e = let l : x ≤ largest = leb-true x largest e in lt-ltb x (256 ^ 2) (omega arith)
    go false e = let l : largest < x = leb-false x largest e in le-ltb x (256 ^ 2) (omega arith)

-- a URI's length in its field, as `every` tests it
abbrev pub uri_holds : List ℕ → ℕ → Bool
uri_holds t k = leb (uri_length t k) largest

-- ---- rule 9 of the URIs
abbrev pub UrisIn : List ℕ → List ℕ → ℕ → Type 0
UrisIn text t n = every (span_passes text t) n ≡ true

-- what the code has in hand of one of them
module _ (text : List ℕ) (a b : ℕ) where
  pub span_in_lem : a ≤ b → b ≤ length text → span_in text (span a b) ≡ true
  span_in_lem h l = rw (le-leb a b h, le-leb b (length text) l)

  pub span_falls : b < a → span_in text (span a b) ≡ false
  span_falls h = rw (lt-leb a b h)

  pub span_long : length text < b → span_in text (span a b) ≡ false
  span_long h = rw (lt-leb b (length text) h) (and-false (leb a b))

  shown_length : span_in text (span a b) ≡ true → length (shown text (span a b)) ≡ b - a
  shown_length e = let w = span_within text a b e in length-take-le (b - a) _ (omega (arith, w, length-drop a text))

module _ (text t : List ℕ) (n : ℕ) (s : UrisIn text t n) where
  -- a URI within the text is as long as its span
  pub uri_length_lem : (k : ℕ) → k < n → length (cue_of text t k).uri ≡ uri_length t k
  uri_length_lem k h = shown_length text (clip_word t k uri_start) (clip_word t k uri_end) (every_at (span_passes text t) k n h s)

  uris_length : (m : ℕ) → m ≤ n → length (uris (cues_of text t m)) ≡ uris_size t m
  unfolding uris_size
  uris_length zero h = ap length (uris_none (cue_of text t) 0)
  uris_length (suc m) h =
      let e : uris (cues_of text t (suc m)) ≡ uris (cues_of text t m) ++ (cue_of text t m).uri = rw (← add-one m) (uris_more (cue_of text t) m) in
      ap length e ∙ length-append (uris (cues_of text t m)) (cue_of text t m).uri ∙ omega (arith, uris_length m (omega arith), uri_length_lem m h)

  -- the file's size
  pub written_length : length (written text t version1 n) ≡ size t n
  unfolding size
  written_length = file_length version1 (cues_of text t n) ∙ omega (arith, listed_length (cue_of text t) 0 n, uris_length n (le_refl n))

  -- ---- 33: starts that the clock has let pass hold their fields, and so does the place of the URIs where the count does
  module _ (g : Timed t n) where
    clip_holds_lem : (k : ℕ) → k < n → clip_holds version1 (cue_of text t k) ≡ uri_holds t k
    clip_holds_lem k h =
        let start = sum_lengths t k in
        let short : start ≤ largest_total = omega (arith, sum_mono t k n (omega arith), g.short) in
        rw (lt-ltb (start / second) (256 ^ 4) (omega arith), lt-ltb (start % second) (256 ^ 4) (omega arith), uri_length_lem k h, holds_two (uri_length t k))
        (and-true (uri_holds t k))

    clips_hold : (m : ℕ) → m ≤ n → every (λ k. clip_holds version1 (cue_of text t k)) m ≡ every (uri_holds t) m
    unfolding every
    clips_hold zero h = refl
    clips_hold (suc m) h = rw (clips_hold m (omega arith), clip_holds_lem m h)

    pub file_holds_lem : file_holds version1 (cues_of text t n) ≡ fields_hold t n
    unfolding file_holds fields_hold
    file_holds_lem =
        rw (listed_length (cue_of text t) 0 n, hold_every version1 (cue_of text t) n, clips_hold n (le_refl n), holds_two n, and-true (leb n largest))
        (go (leb n largest) refl)
      where
        go : (b : Bool) → leb n largest ≡ b → (holds 4 (n * clip_width version1) && b) && every (uri_holds t) n ≡ b && every (uri_holds t) n
        go true e = let l : n ≤ largest = leb-true n largest e in rw (lt-ltb (n * clip_width version1) (256 ^ 4) (omega arith))
        go false e = rw (and-false (holds 4 (n * clip_width version1)))

-- ---- what the code has in hand of the fields
module _ (t : List ℕ) (n : ℕ) where
  pub wide_count : largest < n → fields_hold t n ≡ false
  unfolding fields_hold
  wide_count h = rw (lt-leb n largest h)

  pub wide_uri : (k : ℕ) → k < n → largest < uri_length t k → fields_hold t n ≡ false
  unfolding fields_hold
  wide_uri k l h = rw (every_fails (uri_holds t) k n l (lt-leb (uri_length t k) largest h)) (and-false (leb n largest))

  pub all_hold : n ≤ largest → every (uri_holds t) n ≡ true → fields_hold t n ≡ true
  unfolding fields_hold
  all_hold h e = rw (le-leb n largest h, e)

  -- what they hold is small, and so is the sum
  module _ (h : fields_hold t n ≡ true) where
    pub count_small : n ≤ largest
    unfolding fields_hold
    count_small = leb-true n largest ((and-eq-true_iff (leb n largest) (every (uri_holds t) n)).0 h).0

    uri_small : (k : ℕ) → k < n → uri_length t k ≤ largest
    unfolding fields_hold
    uri_small k l = leb-true (uri_length t k) largest (every_at (uri_holds t) k n l ((and-eq-true_iff (leb n largest) (every (uri_holds t) n)).0 h).1)

    pub uris_small : (k : ℕ) → k ≤ n → uris_size t k ≤ k * largest
    unfolding uris_size
    uris_small zero l = omega arith
    uris_small (suc k) l = omega (arith, uris_small k (omega arith), uri_small k l)

pub uris_step : (t : List ℕ) (k : ℕ) → uris_size t (k + 1) ≡ uris_size t k + uri_length t k
unfolding uris_size
uris_step t k = rw (add-one k)
