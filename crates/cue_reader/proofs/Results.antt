-- From what `judged` gives to the calls: a refusal is that of each call, a count is the file's and bounds every place in it. Rests on the laws of fronts.
-- Assumes nothing.
use Rattle.std.specs.Prelude.{Result, Ok, Err}
use mathlib.Core.Path.{◌≡◌, sym, ap, ◌∙◌}
use mathlib.Core.List.{List}
use Prim.Native.Nat.{ℕ, suc, ◌+◌, ◌*◌, ◌≤◌, ◌<◌}
use native.Mathlib.Omega.{arith}
use lib.ListN.{length}
use borrow.Author.Tests.{lt-ltb, le-ltb}
use Rattle.text.specs.Nom.{span}
use Rattle.tables.specs.Refusal.{Answer, refused, given, no_such_clip}
use Rattle.tables.specs.Answers.{refusal_of}
use Rattle.tables.specs.declared.Refusal as refusalᵈ
use Rattle.tables.proofs.Refusals.{given_refuses}
use Rattle.cue_file.specs.Format.{Format, clip_width}
use Rattle.cue_file.specs.Read.{found, cursor, count_in, clip_in, start_in, lengths_in, uri_place, judged, cue_read, cues}
use Rattle.cue_reader.specs.Answers.{clips_of}
use Rattle.cue_file.proofs.Judged.{Takes, lengths_mono, fits_exact, judged_front}
use Rattle.cue_reader.proofs.Laws.{lengths_step}

pub record Counted (f : Format) (file : List ℕ) (n : ℕ) : Type 0 where
  pub on : Takes f file
  pub count : n ≡ count_in f file

module _ (f : Format) (file : List ℕ) (a : Result ℕ refusalᵈ.Refusal) (p : clips_of a ≡ judged f file (given (count_in f file))) where
  pub judged_refused : {B : Type 0} (y : Answer B) (r : refusalᵈ.Refusal) → a ≡ Err r → judged f file y ≡ refused (refusal_of r) 0
  judged_refused y r e = (judged_front f file).refuses _ y (given_refuses _ y) (refusal_of r) 0 (sym p ∙ ap clips_of e)

  pub judged_given : (n : ℕ) → a ≡ Ok n → Counted f file n
  judged_given n e =
      let g = (judged_front f file).passed _ n (sym p ∙ ap clips_of e) in
      let q : given (count_in f file) ≡ given n = g.1 in
      record { on = g.0; count = cc }

module _ (f : Format) (file : List ℕ) (n : ℕ) (w : Counted f file n) where
  -- the records and the URIs lie within the file
  uris_within : n * clip_width f + lengths_in f file n ≤ length file
  uris_within = rw w.count (omega (arith, (fits_exact f file w.on.fits).end))

  pub records_within : n * clip_width f ≤ length file
  records_within = omega (arith, uris_within)

  -- and so does a clip's URI
  pub uri_within : (k : ℕ) → k < n → n * clip_width f + lengths_in f file k + (clip_in f file k).uri_length ≤ length file
  uri_within k h = omega (arith, uris_within, lengths_mono f file (k + 1) n (omega arith), lengths_step f file k)

  -- ---- the calls
  pub cues_given : (place : ℕ) → place ≡ n * clip_width f → cues f file ≡ given (cursor n 0 place)
  unfolding cues lengths_in
  cues_given place e =
      let p : place ≡ uri_place f file 0 = omega (arith, rw w.count at e) in
      (judged_front f file).on _ w.on ∙ rw (p, w.count)

  pub read_14 : (k : ℕ) → n ≤ k → cue_read f file k ≡ refused no_such_clip 0
  unfolding cue_read
  read_14 k h = (judged_front f file).on _ w.on ∙ rw (le-ltb k (count_in f file) (rw w.count at h))

  pub read_given : (k start from to : ℕ) → k < n → start ≡ start_in f file k → from ≡ n * clip_width f + lengths_in f file k
      → to ≡ from + (clip_in f file k).uri_length → cue_read f file k ≡ given (found start (span from to) n)
  unfolding cue_read lengths_in
  read_given k start from to h s a b =
      let p : from ≡ uri_place f file k = rw w.count at a in
      let q : to ≡ uri_place f file (suc k) = omega (arith, p, b) in
      (judged_front f file).on _ w.on ∙ rw (lt-ltb k (count_in f file) (rw w.count at h), s, p, q, w.count)
