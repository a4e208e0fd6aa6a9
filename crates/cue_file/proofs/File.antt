-- A file and its list: the file of a list holds that list, and the file of the list that a file holds is that file. For any format.
-- Rests on the laws of rows. Assumes nothing.
use mathlib.Core.Path.{◌≡◌, refl, sym, ap, ◌∙◌, subst}
use mathlib.Core.Logic.{⊎_elim}
use mathlib.Core.Bool.{true, and-eq-true_iff}
use mathlib.Core.List.{List, [], ◌∷◌, ◌++◌, append_assoc, append-nil}
use Prim.Native.Nat.{ℕ, zero, suc, ◌+◌, ◌-◌, ◌*◌, ◌/◌, ◌%◌, ◌≤◌, ◌<◌}
use native.Mathlib.Nat.{zero-mul, suc-mul, zero-add, add-zero, sub-zero, eq-or-lt_of_le, div-add-mod'}
use native.Mathlib.Omega.{arith}
use lib.ListN.{length, take, drop, length-append, length-drop, take-append-drop}
use lib.Seq.{take-add, drop-drop, take_all, drop_at, length-take-le}
use Rattle.text.specs.Spans.{shown}
use Rattle.text.proofs.Ahead.{on, shows}
use Rattle.tables.specs.Layout.{second}
use Rattle.tables.specs.Table.{listed}
use Rattle.tables.proofs.Listed.{listed_length}
use Rattle.cue_file.specs.Format.{Format, ClipRow, Trailer, Cue, clip_fields, trailer_fields, clip_row, trailer, row_of, row_holds, clip_width, trailer_width, clip_values, trailer_values, clip_bytes, trailer_bytes, uris, clips_bytes, file_of, clips_hold, file_holds}
use Rattle.cue_file.specs.Read.{trailer_in, count_in, clip_in, start_in, lengths_in, uri_place, uri_in, cue_in, cues_in, fits_exactly}
use Rattle.cue_file.proofs.Numbers.{Bytes}
use Rattle.cue_file.proofs.Rows.{row_back, row_holds_lem, row_bytes}
use Rattle.cue_file.proofs.Judged.{Takes, place_step, lengths_mono, fits_exact, exact_fits, start_in_lem, uri_within, clip_within}
use Rattle.cue_file.proofs.Sizes.{clip_holds, clip_length, clips_length, file_length}

-- ---- a list written, then read
-- from clip k on: its record is ahead at its place, and its URI at its own
module _ (f : Format) (file : List ℕ) where
  clip_back : (c : Cue) (k : ℕ) (xs : List ℕ) → clip_holds f c ≡ true → drop (k * clip_width f) file ≡ clip_bytes f c ++ xs → clip_in f file k ≡ clip_values f c
  clip_back c k xs h d = ap clip_row (row_back (clip_fields f.clip_widths) (clip_fields (clip_values f c)) file (k * clip_width f) xs refl h d)

  module _ (c : Cue) (k : ℕ) (e : clip_in f file k ≡ clip_values f c) where
    place_next : uri_place f file (suc k) ≡ uri_place f file k + length c.uri
    unfolding lengths_in
    place_next = omega (arith, ap (λ (r : ClipRow). r.uri_length) e)

    cue_back : (ys : List ℕ) → drop (uri_place f file k) file ≡ c.uri ++ ys → cue_in f file k ≡ c
    cue_back ys u =
        let start : start_in f file k ≡ c.start = ap (λ (r : ClipRow). r.seconds * second + r.nanoseconds) e ∙ div-add-mod' c.start second in
        let uri : shown file (uri_in f file k) ≡ c.uri
        = ap (λ (n : ℕ). take (n - uri_place f file k) (drop (uri_place f file k) file)) place_next ∙ shows file (uri_place f file k) c.uri ys u in
        λ i. record { start = start i; uri = uri i }

  record Walked (cs : List Cue) (k : ℕ) : Type 0 where
    same : listed (cue_in f file) k (length cs) ≡ cs
    long : lengths_in f file (k + length cs) ≡ lengths_in f file k + length (uris cs)
    rows : (j : ℕ) → k ≤ j → j < k + length cs → clip_in f file j ≡ clip_values f (cue_in f file j)

  walk : (cs : List Cue) (k : ℕ) (xs ys : List ℕ) → clips_hold f cs ≡ true
      → drop (k * clip_width f) file ≡ clips_bytes f cs ++ xs → drop (uri_place f file k) file ≡ uris cs ++ ys → Walked cs k
  unfolding clips_hold clips_bytes uris listed lengths_in
  walk [] k xs ys h d u = record { same = refl; long = rw (add-zero k, add-zero (lengths_in f file k)); rows = λ j a b. absurd (omega arith) }
  walk (c ∷ cs) k xs ys h d u =
      let p = (and-eq-true_iff (clip_holds f c) (clips_hold f cs)).0 h in
      let d1 : drop (k * clip_width f) file ≡ clip_bytes f c ++ (clips_bytes f cs ++ xs) = d ∙ append_assoc (clip_bytes f c) (clips_bytes f cs) xs in
      let u1 : drop (uri_place f file k) file ≡ c.uri ++ (uris cs ++ ys) = u ∙ append_assoc c.uri (uris cs) ys in
      let e : clip_in f file k ≡ clip_values f c = clip_back c k (clips_bytes f cs ++ xs) p.0 d1 in
      let next : suc k * clip_width f ≡ k * clip_width f + length (clip_bytes f c) = omega (arith, clip_length f c, suc-mul k (clip_width f)) in
      let d2 : drop (suc k * clip_width f) file ≡ clips_bytes f cs ++ xs
      = ap (λ (n : ℕ). drop n file) next ∙ on file (k * clip_width f) (clip_bytes f c) (clips_bytes f cs ++ xs) d1 in
      let u2 : drop (uri_place f file (suc k)) file ≡ uris cs ++ ys
      = ap (λ (n : ℕ). drop n file) (place_next c k e) ∙ on file (uri_place f file k) c.uri (uris cs ++ ys) u1 in
      let w = walk cs (suc k) xs ys p.1 d2 u2 in
      let one : lengths_in f file (suc k) ≡ lengths_in f file k + length c.uri = ap (λ (r : ClipRow). lengths_in f file k + r.uri_length) e in
      let many : k + suc (length cs) ≡ suc k + length cs = omega arith in
      let here : cue_in f file k ≡ c = cue_back c k e (uris cs ++ ys) u1 in
      record {
        same = rw (here, w.same);
        long = ap (lengths_in f file) many ∙ w.long ∙ omega (arith, one, length-append c.uri (uris cs));
        rows = λ j a b.
            ⊎_elim
            (λ q. subst (λ (i : ℕ). clip_in f file i ≡ clip_values f (cue_in f file i)) q (e ∙ sym (ap (clip_values f) here)))
            (λ q. w.rows j q (omega arith))
            (eq-or-lt_of_le a);
      }

-- the whole of it
module _ (f : Format) (cues : List Cue) (h : file_holds f cues ≡ true) where
  fields_hold : (row_holds (trailer_fields f.trailer_widths) (trailer_fields (trailer_values f (length cues))) ≡ true) × (clips_hold f cues ≡ true)
  unfolding file_holds
  fields_hold = (and-eq-true_iff (row_holds (trailer_fields f.trailer_widths) (trailer_fields (trailer_values f (length cues)))) (clips_hold f cues)).0 h

  records_ahead : file_of f cues ≡ clips_bytes f cues ++ (uris cues ++ trailer_bytes f (length cues))
  unfolding file_of
  records_ahead = refl

  uris_ahead : drop (length cues * clip_width f) (file_of f cues) ≡ uris cues ++ trailer_bytes f (length cues)
  unfolding file_of
  uris_ahead = drop_at (clips_bytes f cues) (uris cues ++ trailer_bytes f (length cues)) (length cues * clip_width f) (clips_length f cues)

  trailer_ahead : drop (length (file_of f cues) - trailer_width f) (file_of f cues) ≡ trailer_bytes f (length cues) ++ []
  trailer_ahead =
      let e : length (file_of f cues) - trailer_width f ≡ length cues * clip_width f + length (uris cues) = omega (arith, file_length f cues) in
      ap (λ (n : ℕ). drop n (file_of f cues)) e
      ∙ on (file_of f cues) (length cues * clip_width f) (uris cues) (trailer_bytes f (length cues)) uris_ahead
      ∙ sym (append-nil (trailer_bytes f (length cues)))

  pub trailer_back : trailer_in f (file_of f cues) ≡ trailer_values f (length cues)
  trailer_back =
      let values = trailer_fields (trailer_values f (length cues)) in
      let at = length (file_of f cues) - trailer_width f in
      ap trailer (row_back (trailer_fields f.trailer_widths) values (file_of f cues) at [] refl fields_hold.0 trailer_ahead)

  pub count_back : count_in f (file_of f cues) ≡ length cues
  count_back = ap (λ (r : Trailer). r.count) trailer_back

  pub version_back : (trailer_in f (file_of f cues)).version ≡ f.number
  version_back = ap (λ (r : Trailer). r.version) trailer_back

  pub file_long : trailer_width f ≤ length (file_of f cues)
  file_long = omega (arith, file_length f cues)

  walked : Walked f (file_of f cues) cues 0
  unfolding lengths_in
  walked =
      let zeroth : 0 * clip_width f ≡ 0 = zero-mul (clip_width f) in
      let first : uri_place f (file_of f cues) 0 ≡ length cues * clip_width f
      = add-zero (count_in f (file_of f cues) * clip_width f) ∙ ap (λ (n : ℕ). n * clip_width f) count_back in
      walk f (file_of f cues) cues 0 (uris cues ++ trailer_bytes f (length cues)) (trailer_bytes f (length cues)) fields_hold.1
      (ap (λ (n : ℕ). drop n (file_of f cues)) zeroth ∙ records_ahead)
      (ap (λ (n : ℕ). drop n (file_of f cues)) first ∙ uris_ahead)

  pub cues_back : cues_in f (file_of f cues) ≡ cues
  cues_back = ap (listed (cue_in f (file_of f cues)) 0) count_back ∙ walked.same

  -- a record has the values of its clip
  pub rows_back : (k : ℕ) → k < length cues → clip_in f (file_of f cues) k ≡ clip_values f (cue_in f (file_of f cues) k)
  rows_back k l = walked.rows k (omega arith) (omega arith)

  pub fits_back : fits_exactly f (file_of f cues) ≡ true
  unfolding lengths_in
  fits_back =
      let file = file_of f cues in
      let records : (trailer_in f file).records ≡ 0 = ap (λ (r : Trailer). r.records) trailer_back in
      let place : (trailer_in f file).uris ≡ length cues * clip_width f = ap (λ (r : Trailer). r.uris) trailer_back in
      let from : count_in f file * clip_width f ≡ length cues * clip_width f = ap (λ (n : ℕ). n * clip_width f) count_back in
      let lengths : lengths_in f file (count_in f file) ≡ length (uris cues)
      = ap (lengths_in f file) (count_back ∙ sym (zero-add (length cues))) ∙ walked.long ∙ zero-add (length (uris cues)) in
      exact_fits f file (record { records = records; place = place ∙ sym from; end = omega (arith, file_length f cues) })

-- ---- a file read, then written
three_parts : (a m : ℕ) (l : List ℕ) → take a l ++ (take m (drop a l) ++ drop (a + m) l) ≡ l
three_parts a m l = rw (← drop-drop m a l, take-append-drop m (drop a l)) (take-append-drop a l)

module _ (f : Format) (file : List ℕ) (small : Bytes file) (g : Takes f file) where
  -- the values that its own list has
  pub clip_values_lem : (k : ℕ) → k < count_in f file → clip_values f (cue_in f file k) ≡ clip_in f file k
  clip_values_lem k h =
      let s = (clip_in f file k).seconds in
      let ns = (clip_in f file k).nanoseconds in
      let low : ns < second = (start_in_lem f file g k h).nanoseconds in
      let seconds : (s * second + ns) / second ≡ s = omega arith in
      let nanoseconds : (s * second + ns) % second ≡ ns = omega arith in
      let a = uri_place f file k in
      let b = uri_place f file (suc k) in
      let long : length (shown file (uri_in f file k)) ≡ (clip_in f file k).uri_length
      = length-take-le (b - a) (drop a file) (omega (arith, length-drop a file, uri_within f file g k h)) ∙ omega (arith, place_step f file k) in
      λ i. record { seconds = seconds i; nanoseconds = nanoseconds i; uri_length = long i }

  pub trailer_values_lem : trailer_values f (count_in f file) ≡ trailer_in f file
  trailer_values_lem =
      let x = fits_exact f file g.fits in
      let records : 0 ≡ (trailer_in f file).records = sym x.records in
      let place : count_in f file * clip_width f ≡ (trailer_in f file).uris = sym x.place in
      let version : f.number ≡ (trailer_in f file).version = sym g.version in
      λ i. record { records = records i; uris = place i; count = count_in f file; version = version i }

  -- n records from clip k on
  clips_in : (n k : ℕ) → k + n ≤ count_in f file → clips_bytes f (listed (cue_in f file) k n) ≡ take (n * clip_width f) (drop (k * clip_width f) file)
  unfolding clips_bytes listed
  clips_in zero k h = sym (ap (λ (m : ℕ). take m (drop (k * clip_width f) file)) (zero-mul (clip_width f)))
  clips_in (suc n) k h =
      let w = clip_width f in
      let ws = clip_fields f.clip_widths in
      let room : k * w + w ≤ length file = omega (arith, clip_within f file g k (omega arith), suc-mul k w) in
      let one : clip_bytes f (cue_in f file k) ≡ take w (drop (k * w) file)
      = ap (λ (r : ClipRow). row_of ws (clip_fields r)) (clip_values_lem k (omega arith)) ∙ row_bytes file small ws (k * w) room in
      let next : k * w + w ≡ suc k * w = omega (arith, suc-mul k w) in
      let more : w + n * w ≡ suc n * w = omega (arith, suc-mul n w) in
      ap (λ (l : List ℕ). l ++ clips_bytes f (listed (cue_in f file) (suc k) n)) one
      ∙ ap (λ (l : List ℕ). take w (drop (k * w) file) ++ l) (clips_in n (suc k) (omega arith))
      ∙ ap (λ (m : ℕ). take w (drop (k * w) file) ++ take (n * w) (drop m file)) (sym next)
      ∙ ap (λ (l : List ℕ). take w (drop (k * w) file) ++ take (n * w) l) (sym (drop-drop w (k * w) file))
      ∙ sym (take-add w (n * w) (drop (k * w) file))
      ∙ ap (λ (m : ℕ). take m (drop (k * w) file)) more

  clips_in_hold : (n k : ℕ) → k + n ≤ count_in f file → clips_hold f (listed (cue_in f file) k n) ≡ true
  unfolding clips_hold listed
  clips_in_hold zero k h = refl
  clips_in_hold (suc n) k h =
      let ws = clip_fields f.clip_widths in
      let one : clip_holds f (cue_in f file k) ≡ true
      = ap (λ (r : ClipRow). row_holds ws (clip_fields r)) (clip_values_lem k (omega arith)) ∙ row_holds_lem file small ws (k * clip_width f) in
      (and-eq-true_iff (clip_holds f (cue_in f file k)) (clips_hold f (listed (cue_in f file) (suc k) n))).1 (one, clips_in_hold n (suc k) (omega arith))

  -- and n URIs
  uris_in : (n k : ℕ) → k + n ≤ count_in f file
      → uris (listed (cue_in f file) k n) ≡ take (lengths_in f file (k + n) - lengths_in f file k) (drop (uri_place f file k) file)
  unfolding uris listed
  uris_in zero k h =
      let e : lengths_in f file (k + 0) - lengths_in f file k ≡ 0 = rw (add-zero k) (omega arith) in
      sym (ap (λ (m : ℕ). take m (drop (uri_place f file k) file)) e)
  uris_in (suc n) k h =
      let a = uri_place f file k in
      let b = uri_place f file (suc k) in
      let l = lengths_in f file (suc k + n) - lengths_in f file (suc k) in
      let here : a + (b - a) ≡ b = omega (arith, place_step f file k) in
      let many : k + suc n ≡ suc k + n = omega arith in
      let total : b - a + l ≡ lengths_in f file (suc k + n) - lengths_in f file k
      = omega (arith, lengths_mono f file k (suc k) (omega arith), lengths_mono f file (suc k) (suc k + n) (omega arith)) in
      ap (λ (x : List ℕ). take (b - a) (drop a file) ++ x) (uris_in n (suc k) (omega arith))
      ∙ ap (λ (m : ℕ). take (b - a) (drop a file) ++ take l (drop m file)) (sym here)
      ∙ ap (λ (x : List ℕ). take (b - a) (drop a file) ++ take l x) (sym (drop-drop (b - a) a file))
      ∙ sym (take-add (b - a) l (drop a file))
      ∙ ap (λ (m : ℕ). take m (drop a file)) total
      ∙ ap (λ (m : ℕ). take (lengths_in f file m - lengths_in f file k) (drop a file)) (sym many)

  -- the trailer
  trailer_in_lem : trailer_bytes f (count_in f file) ≡ drop (length file - trailer_width f) file
  trailer_in_lem =
      let ws = trailer_fields f.trailer_widths in
      let at = length file - trailer_width f in
      ap (λ (r : Trailer). row_of ws (trailer_fields r)) trailer_values_lem
      ∙ row_bytes file small ws at (omega (arith, g.long))
      ∙ take_all (trailer_width f) (drop at file) (omega (arith, length-drop at file, g.long))

  -- ---- the whole of it
  pub cues_count : length (cues_in f file) ≡ count_in f file
  cues_count = listed_length (cue_in f file) 0 (count_in f file)

  pub file_back : file_of f (cues_in f file) ≡ file
  unfolding file_of lengths_in
  file_back =
      let n = count_in f file in
      let a = n * clip_width f in
      let m = lengths_in f file n in
      let zeroth : 0 * clip_width f ≡ 0 = zero-mul (clip_width f) in
      let first : uri_place f file 0 ≡ a = add-zero a in
      let all : lengths_in f file (0 + n) - 0 ≡ m = ap (λ (k : ℕ). lengths_in f file k - 0) (zero-add n) ∙ sub-zero m in
      let end : length file - trailer_width f ≡ a + m = let x = fits_exact f file g.fits in omega arith in
      let clips : clips_bytes f (cues_in f file) ≡ take a file = clips_in n 0 (omega arith) ∙ ap (λ (k : ℕ). take a (drop k file)) zeroth in
      let named : uris (cues_in f file) ≡ take m (drop a file)
      = uris_in n 0 (omega arith) ∙ ap (λ (k : ℕ). take k (drop (uri_place f file 0) file)) all ∙ ap (λ (k : ℕ). take m (drop k file)) first in
      let last : trailer_bytes f (length (cues_in f file)) ≡ drop (a + m) file
      = ap (trailer_bytes f) cues_count ∙ trailer_in_lem ∙ ap (λ (k : ℕ). drop k file) end in
      ap (λ (l : List ℕ). l ++ (uris (cues_in f file) ++ trailer_bytes f (length (cues_in f file)))) clips
      ∙ ap (λ (l : List ℕ). take a file ++ (l ++ trailer_bytes f (length (cues_in f file)))) named
      ∙ ap (λ (l : List ℕ). take a file ++ (take m (drop a file) ++ l)) last
      ∙ three_parts a m file

  pub file_holds_lem : file_holds f (cues_in f file) ≡ true
  unfolding file_holds
  file_holds_lem =
      let ws = trailer_fields f.trailer_widths in
      let last : row_holds ws (trailer_fields (trailer_values f (length (cues_in f file)))) ≡ true
      = ap (λ (n : ℕ). row_holds ws (trailer_fields (trailer_values f n))) cues_count
      ∙ ap (λ (r : Trailer). row_holds ws (trailer_fields r)) trailer_values_lem
      ∙ row_holds_lem file small ws (length file - trailer_width f) in
      (and-eq-true_iff (row_holds ws (trailer_fields (trailer_values f (length (cues_in f file))))) (clips_hold f (cues_in f file))).1
      (last, clips_in_hold (count_in f file) 0 (omega arith))
