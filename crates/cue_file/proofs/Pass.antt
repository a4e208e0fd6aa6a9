-- The pass over all clips of a file that the reader takes: its k-th step gives what the call for one clip answers of clip k, and after the last it is done.
-- For any format. Rests on the laws of the checks. Assumes nothing.
use mathlib.Core.Path.{◌≡◌, sym, ap, ◌∙◌}
use mathlib.Core.Bool.{and-false}
use mathlib.Core.List.{List}
use Prim.Native.Nat.{ℕ, suc, ◌+◌, ◌*◌, ◌≤◌, ◌<◌}
use native.Mathlib.Nat.{le_refl}
use native.Mathlib.Omega.{arith}
use lib.Dec.{leb}
use lib.ListN.{length}
use borrow.Author.Tests.{le-leb, lt-leb, lt-ltb, le-ltb}
use Rattle.text.specs.Nom.{Span, span}
use Rattle.tables.specs.Refusal.{refused, given, not_exact}
use Rattle.cue_file.specs.Format.{Format, clip_width}
use Rattle.cue_file.specs.Read.{found, Cursor, cursor, done, clip, count_in, clip_in, start_in, uri_place, uri_in, cue_read, cues, next}
use Rattle.cue_file.proofs.Judged.{Takes, place_step, read_is, cues_given, cues_takes, uri_within, clip_within}

-- ---- one step, from any cursor
module _ (f : Format) (file : List ℕ) (n k place : ℕ) where
  pub next_done : n ≤ k → next f file (cursor n k place) ≡ given done
  unfolding next
  next_done h = rw (le-ltb k n h)

  module _ (h : k < n) where
    -- the record, or the URI, does not lie within the file
    pub next_21_clip : length file < suc k * clip_width f → next f file (cursor n k place) ≡ refused not_exact 0
    unfolding next
    next_21_clip l = rw (lt-ltb k n h, lt-leb (suc k * clip_width f) (length file) l)

    pub next_21_uri : length file < place + (clip_in f file k).uri_length → next f file (cursor n k place) ≡ refused not_exact 0
    unfolding next
    next_21_uri l = rw (lt-ltb k n h, lt-leb (place + (clip_in f file k).uri_length) (length file) l, and-false (leb (suc k * clip_width f) (length file)))

    pub next_given : suc k * clip_width f ≤ length file → place + (clip_in f file k).uri_length ≤ length file
        → (let to = place + (clip_in f file k).uri_length in next f file (cursor n k place) ≡ given (clip k (start_in f file k) (span place to) (cursor n (suc k) to)))
    unfolding next
    next_given l m = rw (lt-ltb k n h, le-leb (suc k * clip_width f) (length file) l, le-leb (place + (clip_in f file k).uri_length) (length file) m)

-- ---- the pass
module _ (f : Format) (file : List ℕ) where
  -- the cursor before clip k
  abbrev pub cursor_at : ℕ → Cursor
  cursor_at k = cursor (count_in f file) k (uri_place f file k)

  -- over a file that opens
  module _ (c : Cursor) (o : cues f file ≡ given c) where
    takes : Takes f file
    takes = cues_takes f file c o

    -- it stands before clip 0
    pub pass_opens : c ≡ cursor_at 0
    pass_opens = let e : given c ≡ given (cursor_at 0) = sym o ∙ cues_given f file takes in cc

    -- it goes from each clip to the next
    pub pass_steps : (k : ℕ) → k < count_in f file → next f file (cursor_at k) ≡ given (clip k (start_in f file k) (uri_in f file k) (cursor_at (suc k)))
    pass_steps k h =
        let e = place_step f file k in
        next_given f file (count_in f file) k (uri_place f file k) h (omega (arith, clip_within f file takes k h)) (omega (arith, uri_within f file takes k h))
        ∙ ap (λ (p : ℕ). given (clip k (start_in f file k) (span (uri_place f file k) p) (cursor (count_in f file) (suc k) p))) (sym e)

    -- and ends after the last
    pub pass_ends : next f file (cursor_at (count_in f file)) ≡ given done
    pass_ends = next_done f file (count_in f file) (count_in f file) (uri_place f file (count_in f file)) (le_refl (count_in f file))

    -- what it gives of clip k is what the call for one clip answers
    pub pass_answers : (k start : ℕ) (uri : Span) (n : ℕ) → cue_read f file k ≡ given (found start uri n)
        → next f file (cursor_at k) ≡ given (clip k start uri (cursor_at (suc k)))
    pass_answers k start uri n e =
        let p = read_is f file k (found start uri n) e in
        let q : found start uri n ≡ found (start_in f file k) (uri_in f file k) (count_in f file) = p.1 in
        cc (pass_steps k p.0)
